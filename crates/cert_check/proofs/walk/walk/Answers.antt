use Rattle.std.proofs.Common.{ℕ, length, ap, subst}
use Rattle.cert_check.specs.inner.Knowns.{HasRoom}
use Rattle.cert_check.proofs.walk.walk.Goals as goal

pub walk_on-requires-clause-room : goal.walk_on-requires-clause-room
walk_on-requires-clause-room c = subst (λ (n : ℕ). HasRoom n c.in_ok-scratch.scratch) (ap (λ (xs : _). length xs) c.items.ensures.value) c.in_ok-scratch.ensures
