use Rattle.std.proofs.Common.{◌≡◌, ℕ, ◌+◌, ◌<◌, ◌≤◌, length}
use Rattle.front_bound.specs.inner.Placed.{RowPlaced}
use Rattle.front_table.specs.Pools.{Spreads}
use Rattle.front_bound.proofs.placed_strips.placed_from.Given as goal

abbrev pub invariant-loop-done : goal.invariant-loop-done
invariant-loop-done l = record {
  cells : length l.cells.pool ≡ length l.fn.cells.pool;
  spreads : Spreads (l.start + 1) l.initial.pool l.pool;
  placed : (n : ℕ) → l.start < n + l.done → n ≤ l.start → RowPlaced l.stretch l.pool n;
}
