use Rattle.std.proofs.Common.{take, All, IsSome}
use Rattle.stack_order.proofs.breaches.first_unknown.Given as goal

abbrev pub invariant-loop-cut : goal.invariant-loop-cut
invariant-loop-cut l = All (λ c. IsSome c.item) (take l.cut-index l.cuts)
