use Rattle.std.proofs.Common.{◌≡◌, ◌≢◌, get_or, Some, None, AllPairs, refl, sym, ap, subst, ◌∙◌}
use Rattle.std.specs.Prelude.{slice_get}
use Rattle.std.proofs.lemmas.Option.{slice_get-get_or}
use Rattle.std.proofs.lemmas.List.{take_all}
use Rattle.stack_order.specs.declared.order_rule.OrderRule.TheVariants.{L9Twice}
use Rattle.stack_order.specs.Breaches.{breach}
use Rattle.stack_order.specs.declared.cuts.ItemCut.{ItemCut}
use Rattle.stack_order.proofs.Counted.{different_more}
use Rattle.stack_order.proofs.breaches.first_repeat.Goals as goal

pub returns-in-Some : goal.returns-in-Some
returns-in-Some c =
    let again : ItemCut = get_or c.args.cuts.now c.loop-place.place record { plate = 0; node = 0; number = 0; item = None } in
    let there : slice_get c.args.cuts.now c.loop-place.place ≡ Some again = slice_get-get_or c.args.cuts.now c.loop-place.place _ c.loop-place-test.true in
    record {
      place = c.loop-place.place;
      again = again;
      there = there;
      different = c.loop-place.invariant;
      first = c.in-Some.first;
      first_is = sym c.in-Some.ensures;
      is = c.breach_at.ensures ∙ ap (λ number. breach L9Twice again.plate again.node number c.in-Some.first.node) c.from.ensures;
    }

pub loop-place-preserved : goal.loop-place-preserved
loop-place-preserved c = different_more c.args.cuts.now c.loop-place.place _ _ c.loop-place-test.true refl c.loop-place.invariant (sym c.in_default.ensures)

pub returns : goal.returns
returns c = subst (AllPairs (λ (a b : ItemCut). a.number ≢ b.number)) (take_all c.loop-place.place c.args.cuts.now c.loop-place-test.false) c.loop-place.invariant
