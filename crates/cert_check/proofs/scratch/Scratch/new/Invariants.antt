use Rattle.std.proofs.Common.{◌≡◌, length}
use Rattle.cert_check.proofs.scratch.Scratch.new.Given as goal

abbrev pub invariant-loop : goal.invariant-loop
invariant-loop l = (length l.steps.items ≡ l.counter) × (length l.numbers.items ≡ l.counter)
