use Rattle.std.proofs.Common.{◌≡◌, length}
use Rattle.cert_check.proofs.scratch.zeros.Given as goal

abbrev pub invariant-loop : goal.invariant-loop
invariant-loop l = length l.run.items ≡ l.counter
