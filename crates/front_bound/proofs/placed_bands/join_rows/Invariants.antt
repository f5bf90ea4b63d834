use Rattle.std.proofs.Common.{ℕ, ◌<◌}
use Rattle.front_bound.specs.inner.Placed.{RunsJoined}
use Rattle.front_table.specs.Pools.{Spreads, row_at}
use Rattle.front_bound.proofs.placed_bands.join_rows.Given as goal

abbrev pub invariant-loop-to : goal.invariant-loop-to
invariant-loop-to l = record {
  spreads : Spreads l.onward.row l.fn.pool l.pool;
  joined : (n : ℕ) → n < l.to → RunsJoined l.onward.stretch.now l.pool l.onward.row l.onward.label.now n (row_at l.fn.cells n);
}
