use Rattle.std.proofs.Common.{◌≡◌, ℕ, ◌<◌, ◌≤◌, All, length, ◌∙◌, arith}
use Rattle.front_table.specs.Levels.{to_go_at}
use Rattle.front_table.proofs.PoolRows.{spreads_same, spreads_then, spreads_from}
use Rattle.front_bound.proofs.SideLemmas.{sides_kept, sides_next}
use Rattle.front_bound.proofs.runs.add_all_sides.Goals as goal

pub loop-rest-init : goal.loop-rest-init
loop-rest-init g c = record {
  begun = omega (arith, c.requires.some);
  inside = omega arith;
  some = c.requires.lanes;
  room = c.requires.room;
  spreads = spreads_same (length c.args.fronts.now.rows.now) c.args.sides.now;
  goes_on = λ n from lt. absurd (omega (arith, from, lt));
}

pub loop-rest-preserved : goal.loop-rest-preserved
loop-rest-preserved g c =
    let fronts = c.args.fronts.now in
    let added = c.in_ok-rest.ensures in
    let i = c.loop-rest.invariant in
    record {
      begun = added.some;
      inside = omega (arith, added.down, i.inside);
      some = omega (arith, added.len, i.some);
      room = added.room;
      spreads = spreads_then (length fronts.rows.now) c.args.sides.now c.loop-rest.sides c.add_sides.new.sides i.spreads (spreads_from c.loop-rest.rest.end (length fronts.rows.now) c.loop-rest.sides c.add_sides.new.sides i.inside added.spreads);
      goes_on = sides_next fronts.instance.now fronts.rows.now (to_go_at fronts.levels.now) c.args.most c.in_ok-rest.rest.end c.loop-rest.rest.end (length fronts.rows.now) c.loop-rest.sides c.add_sides.new.sides added.spreads added.goes_on i.goes_on;
    }

pub returns-clause-spreads : goal.returns-clause-spreads
returns-clause-spreads g c =
    let all : ℕ = length c.args.fronts.now.rows.now in
    spreads_then all c.args.sides.now c.loop-rest.sides c.sort_by_plate.new.self c.loop-rest.invariant.spreads (spreads_from 1 all c.loop-rest.sides c.sort_by_plate.new.self (omega (arith, c.requires.some)) c.sort_by_plate.ensures)

pub returns-clause-goes_on : goal.returns-clause-goes_on
returns-clause-goes_on g c = λ n some lt.
    let fronts = c.args.fronts.now in
    sides_kept fronts.instance.now fronts.rows.now (to_go_at fronts.levels.now) c.args.most 1 c.loop-rest.sides c.sort_by_plate.new.self n c.sort_by_plate.ensures (omega (arith, some)) (c.loop-rest.invariant.goes_on n (omega (arith, some, c.loop-rest-test.false)) lt)
