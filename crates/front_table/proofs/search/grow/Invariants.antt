use Rattle.std.proofs.Common.{ℕ, ◌<◌, get_or, All}
use Rattle.front_table.specs.declared.labels.FrontLabel.{FrontLabel}
use Rattle.front_table.specs.Pools.{Joined, Spreads, row_at}
use Rattle.front_table.proofs.search.grow.Given as goal

abbrev pub invariant-loop-at : goal.invariant-loop-at
invariant-loop-at l = record {
  spreads : Spreads l.row l.fn.pool l.pool;
  joined : (k : ℕ) (d : FrontLabel) → k < l.at → All (Joined l.within.along l.within.across l.pool (get_or (row_at l.fn.pool l.row) k d)) l.moves;
}
