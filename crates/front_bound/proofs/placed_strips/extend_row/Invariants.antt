use Rattle.std.proofs.Common.{◌≡◌, ℕ, ◌<◌, length, get_or, IfSome}
use Rattle.front_table.specs.declared.labels.FrontLabel.{FrontLabel}
use Rattle.front_bound.specs.inner.Placed.{AreCells, Extended}
use Rattle.front_table.specs.Pools.{Spreads, row_at}
use Rattle.front_bound.proofs.placed_strips.extend_row.Given as goal

abbrev pub invariant-loop-at : goal.invariant-loop-at
invariant-loop-at l = record {
  cells : length l.cells.pool ≡ length l.fn.cells.pool;
  spreads : Spreads l.row l.initial.pool l.pool;
  made : IfSome l.made (AreCells l.stretch l.row l.cells.pool);
  extended : (k : ℕ) (d : FrontLabel) → k < l.at → Extended l.stretch l.pool l.row (get_or (row_at l.initial.pool l.row) k d);
}
