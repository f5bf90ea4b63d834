use Rattle.std.proofs.Common.{ℕ}
use Rattle.front_table.specs.Ends.{Ended}
use Rattle.front_table.proofs.stairs.fill_steps.Given as goal

abbrev pub invariant-loop-at : goal.invariant-loop-at
invariant-loop-at l = record {
  kept : (a t : ℕ) → Ended l.fn.ends.items a t → Ended l.ends.items a t;
}
