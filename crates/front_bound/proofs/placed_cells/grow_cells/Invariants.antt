use Rattle.std.proofs.Common.{ℕ, ◌<◌, get_or, All}
use Rattle.front_table.specs.declared.labels.FrontLabel.{FrontLabel}
use Rattle.front_bound.specs.inner.Placed.{CellJoined}
use Rattle.front_table.specs.Pools.{Spreads, row_at}
use Rattle.front_bound.proofs.placed_cells.grow_cells.Given as goal

abbrev pub invariant-loop-at : goal.invariant-loop-at
invariant-loop-at l = record {
  spreads : Spreads l.row l.fn.space.pool l.space.pool;
  joined : (k : ℕ) (d : FrontLabel) → k < l.at → All (CellJoined l.stretch l.sought l.space.pool (get_or (row_at l.fn.space.pool l.row) k d)) l.cells;
}
