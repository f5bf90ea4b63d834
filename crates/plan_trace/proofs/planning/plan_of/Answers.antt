use Rattle.std.proofs.Common.{◌≡◌, ◌+◌, ◌++◌, ◌∙◌, [], List, ap, sym, subst}
use Rattle.std.proofs.lemmas.Result.{IfOk-weaker}
use Rattle.glass_base.specs.Items.{area_of}
use Rattle.cut_model.specs.Loss.{loss_of}
use Rattle.cut_model.specs.Traces.{trace_of}
use Rattle.cut_model.specs.Tree.{Forest, tree}
use Rattle.plan_trace.specs.declared.laid.Laid.{Laid}
use Rattle.plan_trace.specs.Canonical.{canonical, grown}
use Rattle.plan_trace.specs.Claims.{IsGoodPlan, IsComplete}
use Rattle.plan_trace.specs.inner.Laid.{laid_list, no_laid}
use Rattle.plan_trace.specs.inner.Piles.{spots_of}
use Rattle.plan_trace.proofs.Good.{canonical_good, canonical_loses}
use Rattle.plan_trace.proofs.Laying.{laid_canonical}
use Rattle.plan_trace.proofs.Traced.{canonical_traced}
use Rattle.plan_trace.proofs.planning.plan_of.Goals as goal

pub returns-clause-plan : goal.returns-clause-plan
returns-clause-plan c =
    let b = c.args.instance.now in
    let ss = c.args.trace.now.steps.items in
    IfOk-weaker c.grow.result _ _
    (λ plan is.
    is
    ∙ ap (λ (xs : List Laid). (grown b (spots_of xs)).plates) (c.as_slice-2.ensures ∙ c.in_ok-lay_all.ensures ∙ ap (λ (xs : List Laid). xs ++ laid_list b [] no_laid c.as_slice.result.now) (c.reserve.ensures.items ∙ c.new-laid.ensures) ∙ ap (laid_list b [] no_laid) c.as_slice.ensures)
    ∙ laid_canonical b ss)
    c.grow.ensures

pub returns-clause-good : goal.returns-clause-good
returns-clause-good c =
    let b = c.args.instance.now in
    let ss = c.args.trace.now.steps.items in
    let complete : IsComplete b ss = record { each_item = c.requires.each_item; meets = c.requires.meets } in
    IfOk-weaker c.grow.result (λ plan. tree plan ≡ canonical b ss) _
    (λ plan is. subst (IsGoodPlan b) (sym is) (canonical_good b c.items.ensures.rules ss complete))
    (returns-clause-plan c)

pub returns-clause-loses : goal.returns-clause-loses
returns-clause-loses c =
    let b = c.args.instance.now in
    let ss = c.args.trace.now.steps.items in
    let complete : IsComplete b ss = record { each_item = c.requires.each_item; meets = c.requires.meets } in
    IfOk-weaker c.grow.result (λ plan. tree plan ≡ canonical b ss) _
    (λ plan is. ap (λ (f : Forest). loss_of b f + area_of b.items) is ∙ canonical_loses b c.items.ensures.rules ss complete)
    (returns-clause-plan c)

pub returns-clause-traced : goal.returns-clause-traced
returns-clause-traced c =
    let b = c.args.instance.now in
    let ss = c.args.trace.now.steps.items in
    IfOk-weaker c.grow.result (λ plan. tree plan ≡ canonical b ss) _
    (λ plan is. ap (trace_of b) is ∙ canonical_traced b c.items.ensures.rules ss c.requires.meets)
    (returns-clause-plan c)
