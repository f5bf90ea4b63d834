use Rattle.std.proofs.Common.{ℕ, ◌<◌}
use Rattle.front_table.specs.Levels.{to_go_at}
use Rattle.front_table.specs.Pools.{HeldAt, Spreads}
use Rattle.front_table.specs.Sets.{Held}
use Rattle.front_bound.specs.Sides.{EndsHeld}
use Rattle.front_bound.proofs.sides.offer_ends.Given as goal

abbrev pub invariant-loop-row : goal.invariant-loop-row
invariant-loop-row l = record {
  spreads : Spreads l.outset.row l.fn.sides l.sides;
  held : (m from width : ℕ) → m < l.row → Held l.begins from l.plate → HeldAt l.fn.pool m l.height width → EndsHeld l.outset.fronts.instance.now (to_go_at l.outset.fronts.levels.now m) l.outset.most l.sides m l.plate from width;
}
