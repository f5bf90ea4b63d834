use Rattle.std.proofs.Common.{ℕ, ◌<◌}
use Rattle.front_bound.specs.inner.Clear.{EndsPlaced}
use Rattle.front_table.specs.Levels.{to_go_at}
use Rattle.front_table.specs.Pools.{Spreads, row_at}
use Rattle.front_bound.proofs.placed_sides.offer_placed_ends.Given as goal

abbrev pub invariant-loop-row : goal.invariant-loop-row
invariant-loop-row l = record {
  spreads : Spreads l.outset.row l.fn.sides l.sides;
  held : (m : ℕ) → m < l.row → EndsPlaced l.outset.fronts.instance.now l.stretch.holes.now (to_go_at l.outset.fronts.levels.now m) l.outset.most l.sides m l.plate l.stretch.site.left (row_at l.fn.pool m);
}
