use Rattle.std.proofs.Common.{◌≡◌, ◌∙◌, ap, List, length, map, MatchBool, take, subst, arith}
use Rattle.std.proofs.lemmas.List.{take_all}
use Rattle.cut_model.specs.declared.steps.Step.{Step}
use Rattle.plan_trace.specs.TraceRules.{Meets}
use Rattle.plan_box.specs.Leasts.{least_step}
use Rattle.box_bound.specs.declared.kept.Kept.{Kept}
use Rattle.box_bound.specs.Kept.{late}
use Rattle.box_bound.proofs.refuting.is_broken.Goals as goal

pub returns : goal.returns
returns c =
    let b = c.args.ground.instance.now in
    let kept = c.args.steps.now in
    let all : take (length kept) c.loop-i.numbers ≡ map (λ (k : Kept). least_step (late k)) kept =
    ap (λ n. take n c.loop-i.numbers) (omega arith) ∙ c.loop-i.invariant.written ∙ ap (map (λ (k : Kept). least_step (late k))) (take_all c.loop-i.i kept (omega arith)) in
    subst (λ (xs : List Step). MatchBool c.breaks.result (¬ Meets b xs) (Meets b xs)) all c.breaks.ensures
