use Rattle.std.proofs.Common.{ℕ, ◌<◌, get_or}
use Rattle.front_table.specs.declared.labels.FrontLabel.{FrontLabel}
use Rattle.front_bound.specs.inner.Around.{IsRoomy}
use Rattle.front_table.specs.Levels.{to_go_at}
use Rattle.front_table.specs.Pools.{Spreads}
use Rattle.front_bound.specs.Sides.{BeginGoesOn}
use Rattle.front_bound.proofs.nearby.place_begins.Given as goal

abbrev pub invariant-loop-begin : goal.invariant-loop-begin
invariant-loop-begin l = record {
  space : IsRoomy l.outset.fronts.rows.now l.space;
  spreads : Spreads l.outset.row l.fn.sides l.sides;
  goes_on : (k : ℕ) (d : FrontLabel) → k < l.begin-index → BeginGoesOn l.outset.fronts.instance.now l.outset.fronts.rows.now (to_go_at l.outset.fronts.levels.now) l.outset.most l.sides l.outset.row l.space.clear.items (get_or l.begins k d) l.class.plate l.class.low l.class.limits.top l.class.room l.class.limits.most;
}
