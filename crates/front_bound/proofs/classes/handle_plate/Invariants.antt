use Rattle.front_bound.specs.inner.Around.{IsRoomy}
use Rattle.front_table.specs.Levels.{to_go_at}
use Rattle.front_table.specs.Pools.{Spreads}
use Rattle.front_bound.specs.Sides.{PlateGoesOn}
use Rattle.front_bound.proofs.classes.handle_plate.Given as goal

abbrev pub invariant-loop-class : goal.invariant-loop-class
invariant-loop-class l = record {
  space : IsRoomy l.outset.fronts.rows.now l.space;
  spreads : Spreads l.outset.row l.fn.sides l.sides;
  goes_on : PlateGoesOn l.outset.fronts.instance.now l.outset.fronts.rows.now (to_go_at l.outset.fronts.levels.now) l.outset.most l.sides l.outset.row l.begins l.plate l.low;
}
