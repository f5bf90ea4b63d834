use Rattle.std.proofs.Common.{◌≡◌, length}
use Rattle.trace_book.proofs.bounds.blank.Given as goal

-- a step for each item so far
abbrev pub invariant-loop-number : goal.invariant-loop-number
invariant-loop-number l = length l.steps.items ≡ l._number
