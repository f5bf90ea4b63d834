use Rattle.std.proofs.Common.{ℕ, ◌<◌, get_or}
use Rattle.front_table.specs.declared.moves.Move.{Move}
use Rattle.front_bound.specs.inner.Placed.{CellJoined}
use Rattle.front_table.specs.Pools.{Spreads}
use Rattle.front_bound.proofs.placed_cells.join_cells.Given as goal

abbrev pub invariant-loop-cell : goal.invariant-loop-cell
invariant-loop-cell l = record {
  spreads : Spreads l.row l.fn.space.pool l.space.pool;
  joined : (k : ℕ) (d : Move) → k < l.cell-index → CellJoined l.stretch l.sought l.space.pool l.label (get_or l.cells k d);
}
