use Rattle.std.proofs.Common.{◌∙◌, List, length, map, ap, sym, arith, subst}
use Rattle.std.specs.Option.{MatchOption}
use Rattle.std.proofs.lemmas.List.{length-map}
use Rattle.cut_model.specs.declared.steps.Step.{Step}
use Rattle.plan_trace.specs.Broken.{IsFirstBroken}
use Rattle.plan_trace.specs.TraceRules.{Meets}
use Rattle.plan_box.specs.Leasts.{least_step, least_steps}
use Rattle.box_bound.specs.declared.kept.Kept.{Kept}
use Rattle.box_bound.specs.Kept.{late}
use Rattle.box_bound.proofs.Writing.{whole_count}
use Rattle.plan_box.proofs.PointTests.{least_map}
use Rattle.box_bound.proofs.probing.broken_at.Goals as goal

pub write-requires : goal.write-requires
write-requires c =
    let count = whole_count c.args.ground.instance.now c.args.bx.now c.args.leasts.now c.requires.leasts c.requires.whole c.frame-frame.ensures.rules c.requires.instance in
    ap length c.kept.ensures ∙ count ∙ sym c.requires.trace

pub returns-clause-trace : goal.returns-clause-trace
returns-clause-trace c =
    c.write.ensures ∙ ap (map (λ (k : Kept). least_step (late k))) c.kept.ensures ∙ sym (least_map (λ k. k.level) late c.args.leasts.now.steps) ∙ ap least_steps c.requires.leasts.values

pub returns-clause-broken : goal.returns-clause-broken
returns-clause-broken c =
    subst (λ (xs : List Step). MatchOption c.first_broken.result (Meets c.args.ground.instance.now xs) (λ broken. IsFirstBroken c.args.ground.instance.now xs broken.rule broken.step)) c.as_slice.ensures c.first_broken.ensures

pub first_broken-requires : goal.first_broken-requires
first_broken-requires c =
    let count = whole_count c.args.ground.instance.now c.args.bx.now c.args.leasts.now c.requires.leasts c.requires.whole c.frame-frame.ensures.rules c.requires.instance in
    omega (arith, ap length c.as_slice.ensures, ap length c.write.ensures, length-map c.kept.result.now (λ (k : Kept). least_step (late k)), ap length c.kept.ensures, count, c.items-items.ensures.rules.few_items)
