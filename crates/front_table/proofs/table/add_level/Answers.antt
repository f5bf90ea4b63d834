use Rattle.std.proofs.Common.{List, length, subst, arith}
use Rattle.front_table.specs.declared.levels.RowFacts.{RowFacts}
use Rattle.front_table.specs.Ready.{IsKnown}
use Rattle.front_table.proofs.LaneLists.{lanes_made, lanes_ready}
use Rattle.front_table.proofs.table.add_level.Goals as goal

pub push_level_of-requires-clause-made : goal.push_level_of-requires-clause-made
push_level_of-requires-clause-made g c = λ m has.
    let fronts = c.args.fronts.now in
    subst (λ (l : List RowFacts). IsKnown fronts.instance.now fronts.rows.now fronts.tops.now fronts.cover l m.row m.facts) c.as_slice.ensures.value
    (lanes_made fronts.instance.now fronts.rows.now fronts.tops.now fronts.cover c.as_slice.result.now c.make_level.new.lanes (λ i d lt. c.make_level.ensures.each i d (omega (arith, lt, c.make_level.ensures.len))) c.in_ok-left.ensures m has)

pub returns-clause-ready : goal.returns-clause-ready
returns-clause-ready g c =
    let fronts = c.args.fronts.now in
    c.in_ok-push_level_of.ensures.ready (length fronts.rows.now)
    (lanes_ready fronts.instance.now fronts.rows.now fronts.tops.now fronts.cover c.as_slice.result.now c.make_level.new.lanes (λ i d lt. c.make_level.ensures.each i d (omega (arith, lt, c.make_level.ensures.len))) c.in_ok-left.ensures)
