use Rattle.std.proofs.Common.{◌-◌, length}
use Rattle.front_table.proofs.PoolRows.{kept_at}
use Rattle.front_bound.proofs.runs.sides_within.Goals as goal

pub returns-clause-start : goal.returns-clause-start
returns-clause-start g c =
    let all = length c.args.fronts.now.rows.now in
    kept_at all c.offer.new.self c.add_all_sides.new.sides c.in_ok-add_all_sides.ensures.spreads (all - 1) 0 0 (c.in_ok-offer.ensures.held 0 0 (c.only.ensures, c.only-2.ensures))
