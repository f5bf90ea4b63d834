use Rattle.std.proofs.Common.{◌↔◌, Bool, IsTrue, List, map, subst}
use Rattle.plan_trace.specs.declared.level.Level.TheVariants.{NewPlate}
use Rattle.plan_box.specs.Decisions.{all_decided}
use Rattle.plan_box.specs.Leasts.{Fixed, no_known}
use Rattle.plan_box.specs.Packed.{unpacked}
use Rattle.plan_box.specs.Reasons.{SomeFixed}
use Rattle.plan_box.specs.Facts.{FactOf}
use Rattle.cert_check.specs.inner.Knowns.{fixed_of}
use Rattle.cert_check.proofs.Somes.{whole_is}
use Rattle.cert_check.proofs.refuting.is_fact.Goals as goal

pub returns : goal.returns
returns c =
    let b = c.args.ground.instance.now in
    let r = c.is_fact_at_some.result in
    subst (λ (ks : List Fixed). IsTrue r ↔ SomeFixed (FactOf b (all_decided (map unpacked c.args.ranges.now)) c.args.reason) NewPlate no_known ks) c.requires.known.values
    (subst (λ (w : Bool). IsTrue r ↔ SomeFixed (FactOf b w c.args.reason) NewPlate no_known (map fixed_of c.args.steps.now)) (whole_is b c.args.ranges.now c.args.steps.now c.requires.known) c.is_fact_at_some.ensures)
