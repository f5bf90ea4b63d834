use Rattle.std.proofs.Common.{sym, subst}
use Rattle.front_table.specs.Sets.{Held, HeldTo, Keeps}
use Rattle.front_table.proofs.HeldLists.{keeps_same, keeps_push, held_push_new, held_of, stands_itself}
use Rattle.front_table.proofs.labels.offer.Goals as goal

pub returns-then-is_covered-clause-kept : goal.returns-then-is_covered-clause-kept
returns-then-is_covered-clause-kept c = keeps_same c.args.labels.now.items

pub returns-clause-kept : goal.returns-clause-kept
returns-clause-kept c =
    subst (λ labels. Keeps c.args.labels.now.items labels) (sym c.in_ok-push.ensures.items) (keeps_push c.args.labels.now.items c.thin.new.labels.items c.args.label.now c.thin.ensures)

pub returns-clause-stands : goal.returns-clause-stands
returns-clause-stands c = λ x y right up stands. subst (λ labels. HeldTo labels x y right up) (sym c.in_ok-push.ensures.items) (held_push_new c.thin.new.labels.items c.args.label.now x y right up stands)

pub returns-clause-held : goal.returns-clause-held
returns-clause-held c = λ x y fits.
    let l = c.args.label.now in
    subst (λ labels. Held labels x y) (sym c.in_ok-push.ensures.items) (held_of _ x y l.right.least l.up (held_push_new c.thin.new.labels.items l x y l.right.least l.up (stands_itself l x y fits)))

pub returns-then-is_covered-clause-held : goal.returns-then-is_covered-clause-held
returns-then-is_covered-clause-held c = λ x y fits.
    let l = c.args.label.now in
    subst (λ labels. Held labels x y) c.as_slice.ensures.value (held_of c.as_slice.result.now x y l.right.least l.up (c.is_covered.ensures c.if-is_covered.true x y l.right.least l.up (stands_itself l x y fits)))
