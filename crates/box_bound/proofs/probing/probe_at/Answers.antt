use Rattle.plan_trace.specs.Broken.{IsFirstBroken}
use Rattle.plan_trace.specs.TraceRules.{Meets}
use Rattle.plan_trace.proofs.Breaches.{first_broken_not_meets}
use Rattle.box_bound.proofs.Writing.{none_found}
use Rattle.box_bound.proofs.probing.probe_at.Goals as goal

pub returns-clause-meets : goal.returns-clause-meets
returns-clause-meets c =
    let steps = c.broken_at.new.trace.steps.items in
    none_found (Meets c.args.instance.now steps) (λ broken. IsFirstBroken c.args.instance.now steps broken.rule broken.step) c.broken_at.result c.is_none.result
    (λ broken h. first_broken_not_meets c.args.instance.now steps broken.rule broken.step h) c.is_none.ensures c.broken_at.ensures.broken
