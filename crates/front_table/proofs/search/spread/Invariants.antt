use Rattle.std.proofs.Common.{ℕ, ◌+◌, ◌<◌, ◌≤◌}
use Rattle.front_table.specs.Lattice.{moves_at}
use Rattle.front_table.specs.Pools.{GoesOn, Spreads}
use Rattle.front_table.proofs.search.spread.Given as goal

abbrev pub invariant-loop-done : goal.invariant-loop-done
invariant-loop-done l = record {
  spreads : Spreads l.start l.fn.pool l.pool;
  goes_on : (n : ℕ) → l.start < n + l.done → n ≤ l.start → GoesOn l.within.along l.within.across l.pool n (moves_at l.rows n);
}
