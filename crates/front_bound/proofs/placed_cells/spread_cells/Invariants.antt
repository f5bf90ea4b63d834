use Rattle.std.proofs.Common.{ℕ, ◌+◌, ◌<◌, ◌≤◌}
use Rattle.front_table.specs.Lattice.{moves_at}
use Rattle.front_bound.specs.inner.Placed.{CellsGoOn}
use Rattle.front_table.specs.Pools.{Spreads}
use Rattle.front_bound.proofs.placed_cells.spread_cells.Given as goal

abbrev pub invariant-loop-done : goal.invariant-loop-done
invariant-loop-done l = record {
  spreads : Spreads l.sought.start l.fn.space.pool l.space.pool;
  goes_on : (n : ℕ) → l.sought.start < n + l.done → n ≤ l.sought.start → CellsGoOn l.stretch l.sought l.space.pool n (moves_at l.stretch.fronts.rows.now n);
}
