use Rattle.std.proofs.Common.{length, refl, arith}
use Rattle.front_table.specs.Levels.{to_go_at}
use Rattle.front_bound.proofs.LaneSides.{level_joined}
use Rattle.front_bound.proofs.runs.add_sides.Goals as goal

pub returns-clause-goes_on : goal.returns-clause-goes_on
returns-clause-goes_on g c =
    let fronts = c.args.fronts.now in
    level_joined fronts.instance.now fronts.rows.now (to_go_at fronts.levels.now) c.args.most c.level_start-first.result c.args.rest.end (length c.args.lanes.now) c.sort_level.new.sides c.join_lanes.new.sides c.in_ok-join_lanes.ensures.spreads
    c.handle_level.new.lanes (omega (arith, c.handle_level.ensures.len)) c.requires.some
    (λ i d lt. (c.handle_level.ensures.each i d (omega (arith, lt, c.handle_level.ensures.len)) (c.in_ok-labels.ensures i d lt)).1)
    c.in_ok-join_lanes.ensures.held
