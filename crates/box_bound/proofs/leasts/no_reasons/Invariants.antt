use Rattle.std.proofs.Common.{◌≡◌, ◌+◌, ◌≤◌, length}
use Rattle.box_bound.proofs.leasts.no_reasons.Given as goal

abbrev pub invariant-loop : goal.invariant-loop
invariant-loop l = (length l.reasons.items ≡ l.counter) × (l.count ≤ l.reasons.spare + l.counter)
