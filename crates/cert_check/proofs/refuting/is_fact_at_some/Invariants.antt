use Rattle.std.proofs.Common.{◌↔◌, map, drop}
use Rattle.plan_trace.specs.declared.level.Level.TheVariants.{NewPlate}
use Rattle.plan_box.specs.Leasts.{no_known}
use Rattle.plan_box.specs.Reasons.{SomeFixed}
use Rattle.plan_box.specs.Facts.{FactOf}
use Rattle.cert_check.specs.inner.Knowns.{fixed_of, known_in}
use Rattle.cert_check.proofs.refuting.is_fact_at_some.Given as goal

abbrev pub invariant-loop-i : goal.invariant-loop-i
invariant-loop-i l =
    SomeFixed (FactOf l.asked.ground.instance.now l.asked.whole l.reason) l.last.level (known_in l.last) (map fixed_of (drop l.i l.steps))
    ↔ SomeFixed (FactOf l.asked.ground.instance.now l.asked.whole l.reason) NewPlate no_known (map fixed_of l.steps)
