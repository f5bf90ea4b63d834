use Rattle.std.proofs.Common.{refl, subst}
use Rattle.std.proofs.lemmas.List.{take_all}
use Rattle.cut_model.specs.Order.{KeepsStacks}
use Rattle.stack_order.specs.Breaches.{items_of}
use Rattle.stack_order.proofs.Ordered.{kept_more}
use Rattle.stack_order.proofs.breaches.first_late.Goals as goal

pub loop-place-preserved : goal.loop-place-preserved
loop-place-preserved c = kept_more c.args.cuts.now c.loop-place.place _ _ c.loop-place-test.true refl c.requires c.loop-place.invariant c.in_default.ensures

pub returns : goal.returns
returns c = subst (λ l. KeepsStacks (items_of l)) (take_all c.loop-place.place c.args.cuts.now c.loop-place-test.false) c.loop-place.invariant
