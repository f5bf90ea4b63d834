use Rattle.std.proofs.Common.{◌+◌, ◌↔◌, IsTrue, List, refl, arith, drop, map, get_or, subst}
use Rattle.plan_trace.specs.declared.level.Level.TheVariants.{NewPlate}
use Rattle.plan_box.specs.Leasts.{no_known}
use Rattle.plan_box.specs.Reasons.{SomeFixed}
use Rattle.cert_check.specs.declared.steps.Decided.{Decided}
use Rattle.plan_box.specs.Facts.{FactOf}
use Rattle.cert_check.specs.inner.Knowns.{fixed_of, known_in, levels_in, nothing}
use Rattle.plan_box.proofs.PointTests.{not_both}
use Rattle.cert_check.proofs.Somes.{rest_is, some_here, some_next, some_none}
use Rattle.cert_check.proofs.refuting.is_fact_at_some.Goals as goal

pub loop-i-preserved : goal.loop-i-preserved
loop-i-preserved c =
    let R = FactOf c.args.asked.ground.instance.now c.args.asked.whole c.args.reason in
    let steps = c.args.steps.now in
    let k = get_or steps c.loop-i.i nothing in
    let test : IsTrue c.is_fact_at.result ↔ R c.loop-i.last.level (known_in c.loop-i.last) k.level (known_in k) (levels_in (drop (c.loop-i.i + 1) steps)) =
    subst (λ (xs : List Decided). IsTrue c.is_fact_at.result ↔ R c.loop-i.last.level (known_in c.loop-i.last) k.level (known_in k) (levels_in xs)) (rest_is steps (c.loop-i.i + 1)) c.is_fact_at.ensures in
    some_next R c.loop-i.last.level (known_in c.loop-i.last) steps c.loop-i.i nothing (omega arith) (SomeFixed R NewPlate no_known (map fixed_of steps))
    (not_both c.is_fact_at.result _ c.if-is_fact_at.false test) c.loop-i.invariant

pub returns-then-is_fact_at : goal.returns-then-is_fact_at
returns-then-is_fact_at c =
    let R = FactOf c.args.asked.ground.instance.now c.args.asked.whole c.args.reason in
    let steps = c.args.steps.now in
    let k = get_or steps c.loop-i.i nothing in
    let test : IsTrue c.is_fact_at.result ↔ R c.loop-i.last.level (known_in c.loop-i.last) k.level (known_in k) (levels_in (drop (c.loop-i.i + 1) steps)) =
    subst (λ (xs : List Decided). IsTrue c.is_fact_at.result ↔ R c.loop-i.last.level (known_in c.loop-i.last) k.level (known_in k) (levels_in xs)) (rest_is steps (c.loop-i.i + 1)) c.is_fact_at.ensures in
    (λ _. c.loop-i.invariant.0 (some_here R c.loop-i.last.level (known_in c.loop-i.last) steps c.loop-i.i nothing (omega arith) (test.0 c.if-is_fact_at.true)), λ _. refl)

pub returns : goal.returns
returns c =
    let R = FactOf c.args.asked.ground.instance.now c.args.asked.whole c.args.reason in
    (λ h. absurd (cc h), λ some. absurd (some_none R c.loop-i.last.level (known_in c.loop-i.last) c.args.steps.now c.loop-i.i (omega arith) (c.loop-i.invariant.1 some)))
