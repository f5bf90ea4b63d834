use Rattle.std.proofs.Common.{ℕ, ◌+◌, ◌<◌, ◌≤◌}
use Rattle.front_table.specs.Pools.{Spreads}
use Rattle.front_table.specs.Tries.{RowExtended}
use Rattle.front_table.proofs.strips.extend_below.Given as goal

abbrev pub invariant-loop-done : goal.invariant-loop-done
invariant-loop-done l = record {
  spreads : Spreads l.below l.fn.pool l.pool;
  extended : (n : ℕ) → l.below ≤ n + l.done → n < l.below → RowExtended l.search.fronts.rows.now l.search.fronts.levels.now l.search.limits l.pool n;
}
