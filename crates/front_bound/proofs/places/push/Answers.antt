use Rattle.std.proofs.Common.{sym, subst}
use Rattle.front_bound.specs.inner.Clear.{Covered}
use Rattle.front_bound.proofs.PlacedRows.{covered_push_old, covered_push_new}
use Rattle.front_bound.proofs.places.push.Goals as goal

pub returns-clause-kept : goal.returns-clause-kept
returns-clause-kept c = λ left low covered. subst (λ l. Covered l left low) (sym c.in_ok-push.ensures.items) (covered_push_old c.args.places.now.items _ left low covered)

pub returns-clause-new : goal.returns-clause-new
returns-clause-new c = λ left low x y. subst (λ l. Covered l left low) (sym c.in_ok-push.ensures.items) (covered_push_new c.args.places.now.items _ left low x y)
