use Rattle.std.proofs.Common.{◌≢◌, take, AllPairs}
use Rattle.stack_order.proofs.breaches.first_repeat.Given as goal

abbrev pub invariant-loop-place : goal.invariant-loop-place
invariant-loop-place l = AllPairs (λ a c. a.number ≢ c.number) (take l.place l.cuts)
