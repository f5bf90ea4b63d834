use Rattle.std.proofs.Common.{ℕ, ◌+◌, ◌<◌, get_or}
use Rattle.front_table.specs.declared.labels.FrontLabel.{FrontLabel}
use Rattle.front_bound.specs.inner.Placed.{RunJoined}
use Rattle.front_table.specs.Pools.{Spreads}
use Rattle.front_bound.proofs.placed_bands.join_runs.Given as goal

abbrev pub invariant-loop-cells : goal.invariant-loop-cells
invariant-loop-cells l = record {
  spreads : Spreads (l.to + 1) l.fn.pool l.pool;
  joined : (k : ℕ) (d : FrontLabel) → k < l.cells-index → RunJoined l.onward.stretch.now l.pool l.onward.row l.onward.label.now l.to (get_or l.runs k d);
}
