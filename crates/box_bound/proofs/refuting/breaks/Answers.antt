use Rattle.plan_trace.specs.Broken.{IsFirstBroken}
use Rattle.plan_trace.specs.TraceRules.{Meets}
use Rattle.plan_trace.proofs.Breaches.{first_broken_not_meets}
use Rattle.plan_box.proofs.PointTests.{some_found}
use Rattle.box_bound.proofs.refuting.breaks.Goals as goal

pub returns : goal.returns
returns c =
    let b = c.args.ground.instance.now in
    let steps = c.args.steps.now in
    some_found (Meets b steps) (λ broken. IsFirstBroken b steps broken.rule broken.step) c.first_broken.result c.is_some.result
    (λ broken h. first_broken_not_meets b steps broken.rule broken.step h) c.is_some.ensures c.first_broken.ensures
