use Rattle.std.proofs.Common.{◌≡◌, ◌<◌, ◌≤◌, List, length, subst, All, Contains}
use Rattle.glass_base.specs.declared.item.Item.{Item}
use Rattle.glass_base.specs.declared.params.Params.{Params}
use Rattle.stack_order.specs.declared.order_rule.OrderRule.TheVariants.{L9Plates}
use Rattle.stack_order.specs.Breaches.{breach, numbers, numbers_cut, NamesMissing}
use Rattle.stack_order.proofs.Answered.{twice_breach, missing_breach, empty_breach, plates_breach, last_breach}
use Rattle.stack_order.proofs.Places.{places_differ}
use Rattle.stack_order.proofs.judge.first_breach.Goals as goal

pub returns-in-Some-first_repeat : goal.returns-in-Some-first_repeat
returns-in-Some-first_repeat c =
    twice_breach c.args.instance.now c.args.cuts.now c.args.plates.now c.in-Some-first_repeat.broken c.in_default.ensures c.in-Some-first_repeat.ensures

pub returns-in-Some-first_missing : goal.returns-in-Some-first_missing
returns-in-Some-first_missing c =
    missing_breach c.args.instance.now c.args.cuts.now c.args.plates.now c.in-Some-first_missing.broken c.in_default.ensures c.in_default-first_repeat.ensures
    (subst (λ (items : List Item). NamesMissing items c.args.cuts.now c.in-Some-first_missing.broken) c.items.ensures.value c.in-Some-first_missing.ensures)

pub returns-in-Some-first_empty_plate : goal.returns-in-Some-first_empty_plate
returns-in-Some-first_empty_plate c =
    empty_breach c.args.instance.now c.args.cuts.now c.args.plates.now c.in-Some-first_empty_plate.broken c.in_default.ensures c.in_default-first_repeat.ensures
    (subst (λ (items : List Item). All (Contains (numbers_cut c.args.cuts.now)) (numbers items)) c.items.ensures.value c.in_default-first_missing.ensures)
    c.in-Some-first_empty_plate.ensures

pub returns-in-Some-plates_too_many : goal.returns-in-Some-plates_too_many
returns-in-Some-plates_too_many c =
    plates_breach c.args.instance.now c.args.cuts.now c.args.plates.now c.in-Some-plates_too_many.broken c.in_default.ensures c.in_default-first_repeat.ensures
    (subst (λ (items : List Item). All (Contains (numbers_cut c.args.cuts.now)) (numbers items)) c.items.ensures.value c.in_default-first_missing.ensures)
    c.in_default-first_empty_plate.ensures
    (subst (λ (params : Params). (params.plates < length c.args.plates.now) × (c.in-Some-plates_too_many.broken ≡ breach L9Plates 0 0 (length c.args.plates.now) params.plates)) c.params.ensures.value c.in-Some-plates_too_many.ensures)

pub first_late-requires : goal.first_late-requires
first_late-requires c =
    places_differ c.args.instance.now.items c.args.cuts.now c.items.ensures.rules.sequences c.requires c.in_default-first_repeat.ensures

pub returns : goal.returns
returns c =
    last_breach c.args.instance.now c.args.cuts.now c.args.plates.now c.first_late.result c.in_default.ensures c.in_default-first_repeat.ensures
    (subst (λ (items : List Item). All (Contains (numbers_cut c.args.cuts.now)) (numbers items)) c.items.ensures.value c.in_default-first_missing.ensures)
    c.in_default-first_empty_plate.ensures
    (subst (λ (params : Params). length c.args.plates.now ≤ params.plates) c.params.ensures.value c.in_default-plates_too_many.ensures)
    c.first_late.ensures
