use Rattle.std.proofs.Common.{◌≡◌, get_or, All, Any, Contains, refl, ap, subst, ◌∙◌, rules}
use Rattle.std.proofs.lemmas.List.{take_all}
use Rattle.std.proofs.lemmas.List.Elements.{All-map, All-more}
use Rattle.glass_base.specs.declared.item.Item.{Item}
use Rattle.stack_order.specs.declared.order_rule.OrderRule.TheVariants.{L9Missing}
use Rattle.stack_order.specs.Breaches.{numbers_cut, breach}
use Rattle.stack_order.specs.declared.cuts.ItemCut.{ItemCut}
use Rattle.stack_order.proofs.Counted.{missing_at}
use Rattle.stack_order.proofs.Searches.{contained_from_any}
use Rattle.stack_order.proofs.breaches.first_missing.Goals as goal

pub returns-then-not-any : goal.returns-then-not-any
returns-then-not-any c =
    let item : Item = get_or c.args.items.now c.loop-item.item-index record { id = 0; length = 0; width = 0; stack = 0; sequence = 0 } in
    let none : ¬ Any (λ (cut : ItemCut). cut.number ≡ item.id) c.args.cuts.now = search rules in
    record {
      number = item.id;
      first = missing_at c.args.items.now c.args.cuts.now c.loop-item.item-index item _ c.loop-item-test.true refl c.loop-item.invariant none;
      is = c.breach.ensures ∙ ap (λ number. breach L9Missing 0 0 number 0) c.from.ensures;
    }

pub loop-item-preserved : goal.loop-item-preserved
loop-item-preserved c =
    let item : Item = get_or c.args.items.now c.loop-item.item-index record { id = 0; length = 0; width = 0; stack = 0; sequence = 0 } in
    let cut : Any (λ (cut : ItemCut). cut.number ≡ item.id) c.args.cuts.now = search rules in
    All-more (λ (other : Item). Contains (numbers_cut c.args.cuts.now) other.id) c.args.items.now c.loop-item.item-index _ c.loop-item-test.true c.loop-item.invariant
    (contained_from_any (λ (other : ItemCut). other.number) c.args.cuts.now item.id cut)

pub returns : goal.returns
returns c =
    All-map (Contains (numbers_cut c.args.cuts.now)) (λ (item : Item). item.id) c.args.items.now
    (subst (All (λ (item : Item). Contains (numbers_cut c.args.cuts.now) item.id)) (take_all c.loop-item.item-index c.args.items.now c.loop-item-test.false) c.loop-item.invariant)
