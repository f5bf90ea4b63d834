use Rattle.std.proofs.Common.{◌≡◌, ◌∙◌, List, length, map, take, ap, sym}
use Rattle.cut_model.specs.declared.steps.Step.{Step}
use Rattle.plan_trace.specs.Broken.{IsFirstBroken}
use Rattle.plan_trace.specs.TraceRules.{Meets}
use Rattle.plan_trace.proofs.Breaches.{first_broken_not_meets}
use Rattle.plan_box.specs.Leasts.{known, least_steps}
use Rattle.plan_box.specs.Packed.{unpacked}
use Rattle.plan_box.proofs.PointTests.{least_map, point_test, some_found}
use Rattle.cert_check.specs.inner.Knowns.{known_in}
use Rattle.cert_check.proofs.refuting.is_broken_point.Goals as goal

pub returns-clause-broken : goal.returns-clause-broken
returns-clause-broken c =
    let b = c.args.ground.instance.now in
    let rs = map unpacked c.args.ranges.now in
    let steps = c.args.steps.now in
    let ss : List Step = take (length steps) c.as_slice.result.now in
    let same : ss ≡ least_steps (known b rs) = ap (take (length steps)) c.as_slice.ensures ∙ c.write.ensures.written ∙ sym (least_map (λ x. x.level) known_in steps) ∙ ap least_steps c.requires.known.values in
    let found = some_found (Meets b ss) (λ broken. IsFirstBroken b ss broken.rule broken.step) c.first_broken.result c.is_some.result (λ broken h. first_broken_not_meets b ss broken.rule broken.step h) c.is_some.ensures c.first_broken.ensures in
    point_test b rs ss c.is_some.result (c.is_point.ensures.0 c.if-not-is_point.false) c.requires.possible same found
