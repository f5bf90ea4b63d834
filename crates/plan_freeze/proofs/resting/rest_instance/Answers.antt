use Rattle.std.proofs.Common.{List, ℕ, All, ap, sym, subst, ◌∙◌, ◌-◌, arith}
use Rattle.cut_model.specs.Tree.{tree}
use Rattle.glass_base.specs.BadParams.{HasSizes}
use Rattle.glass_base.specs.Items.{IsDefectInRange, IsItemInRange}
use Rattle.glass_base.specs.declared.params.Params.{Params}
use Rattle.plan_freeze.specs.Rests.{defects_from, items_besides}
use Rattle.plan_freeze.proofs.CallsLeft.{plates_within, rest_made, rest_not_refused}
use Rattle.plan_freeze.proofs.ListsLeft.{defects_in_range, items_in_range}
use Rattle.plan_freeze.proofs.WidthsLeft.{widths_left}
use Rattle.plan_freeze.proofs.resting.rest_instance.Goals as goal

pub widths_from-requires : goal.widths_from-requires
widths_from-requires c = omega (arith, plates_within c.args.instance.now (tree c.args.plan.now) c.requires.lawful, c.requires.fewer)

pub params_from-params-requires : goal.params_from-params-requires
params_from-params-requires c = omega (arith, ap (λ (p : Params). p.plates) c.params.ensures.value, plates_within c.args.instance.now (tree c.args.plan.now) c.requires.lawful, c.requires.fewer)

pub on_plates-requires-clause-items : goal.on_plates-requires-clause-items
on_plates-requires-clause-items c =
    let are = c.in_ok-items.ensures ∙ ap (items_besides c.args.numbers.now) c.items.ensures.value in
    subst (All IsItemInRange) (sym are) (items_in_range c.args.numbers.now c.args.instance.now.items c.items.ensures.rules.items_in_range)

pub on_plates-requires-clause-defects : goal.on_plates-requires-clause-defects
on_plates-requires-clause-defects c =
    let are = c.in_ok-defects.ensures ∙ ap (defects_from c.args.k) c.defects.ensures.value in
    subst (All IsDefectInRange) (sym are) (defects_in_range c.args.k c.args.instance.now.defects c.items.ensures.rules.defects_in_range)

pub on_plates-requires-clause-widths : goal.on_plates-requires-clause-widths
on_plates-requires-clause-widths c =
    widths_left c.args.instance.now c.args.k c.params_from-params.result c.in_ok-widths.widths.items c.items.ensures.rules c.in_ok-widths.ensures
    (c.params_from-params.ensures.plates_is ∙ ap (λ (p : Params). p.plates - c.args.k) c.params.ensures.value)

pub only_memory-requires : goal.only_memory-requires
only_memory-requires c =
    let items = c.in_ok-items.ensures ∙ ap (items_besides c.args.numbers.now) c.items.ensures.value ∙ ap (λ (ns : List ℕ). items_besides ns c.args.instance.now.items) c.requires.numbers in
    let defects = c.in_ok-defects.ensures ∙ ap (defects_from c.args.k) c.defects.ensures.value in
    rest_not_refused c.args.instance.now (tree c.args.plan.now) c.args.k c.in_ok-items.items.items c.in_ok-defects.defects.items c.in-Err.reason c.items.ensures.rules c.requires.lawful c.requires.fewer items defects c.in-Err.ensures.refused

pub returns-in-Ok : goal.returns-in-Ok
returns-in-Ok c =
    let b = c.args.instance.now in
    let items = c.in_ok-items.ensures ∙ ap (items_besides c.args.numbers.now) c.items.ensures.value ∙ ap (λ (ns : List ℕ). items_besides ns b.items) c.requires.numbers in
    let defects = c.in_ok-defects.ensures ∙ ap (defects_from c.args.k) c.defects.ensures.value in
    let sizes = subst (λ (p : Params). HasSizes c.params_from-params.result (p.plates - c.args.k) p.width p.height p.min1 p.max1 p.min2 p.waste) c.params.ensures.value c.params_from-params.ensures in
    rest_made b c.in-Ok.left (tree c.args.plan.now) c.args.k c.params_from-params.result c.in_ok-items.items.items c.in_ok-defects.defects.items c.in_ok-widths.widths.items c.items.ensures.rules
    (omega (arith, plates_within b (tree c.args.plan.now) c.requires.lawful, c.requires.fewer)) items defects c.in_ok-widths.ensures sizes c.in-Ok.ensures.made
