use Rattle.std.proofs.Common.{ℕ, ◌<◌, ◌≤◌, length}
use Rattle.front_table.specs.Ends.{to_go_of}
use Rattle.front_table.proofs.ends.first_within.Given as goal

abbrev pub invariant-loop : goal.invariant-loop
invariant-loop l = record {
  bound : l.high ≤ length l.ends;
  below : (i : ℕ) → i < l.low → l.within < to_go_of l.ends i;
}
