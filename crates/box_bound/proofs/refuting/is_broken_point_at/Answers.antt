use Rattle.std.proofs.Common.{◌≡◌, List, map, ap, sym, ◌∙◌}
use Rattle.cut_model.specs.declared.steps.Step.{Step}
use Rattle.plan_box.specs.Leasts.{known, least_step, least_steps}
use Rattle.box_bound.specs.declared.kept.Kept.{Kept}
use Rattle.box_bound.specs.Kept.{late}
use Rattle.box_bound.proofs.Writing.{met_from}
use Rattle.plan_box.proofs.PointTests.{point_test, least_map}
use Rattle.box_bound.proofs.refuting.is_broken_point_at.Goals as goal

pub returns-clause-broken : goal.returns-clause-broken
returns-clause-broken c =
    let rs = c.args.bx.now.ranges in
    let numbers : List Step = map (λ (k : Kept). least_step (late k)) c.kept.result.now in
    let same : numbers ≡ least_steps (known c.args.ground.instance.now rs) = ap (map (λ (k : Kept). least_step (late k))) c.kept.ensures ∙ sym (least_map (λ k. k.level) late c.args.leasts.now.steps) ∙ ap least_steps c.requires.leasts.values in
    point_test c.args.ground.instance.now rs numbers c.is_broken.result (c.is_point.ensures.0 c.if-not-is_point.false) c.requires.possible same c.is_broken.ensures

pub returns-clause-met : goal.returns-clause-met
returns-clause-met c = λ kept point.
    let rs = c.args.bx.now.ranges in
    let numbers : List Step = map (λ (k : Kept). least_step (late k)) c.kept.result.now in
    let same : numbers ≡ least_steps (known c.args.ground.instance.now rs) = ap (map (λ (k : Kept). least_step (late k))) c.kept.ensures ∙ sym (least_map (λ k. k.level) late c.args.leasts.now.steps) ∙ ap least_steps c.requires.leasts.values in
    met_from c.args.ground.instance.now numbers (least_steps (known c.args.ground.instance.now rs)) c.is_broken.result kept same c.is_broken.ensures
