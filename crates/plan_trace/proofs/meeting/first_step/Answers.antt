use Rattle.std.proofs.Common.{◌+◌, arith, subst, IsTrue, ◌↔◌, List}
use Rattle.std.proofs.lemmas.List.{take_rest}
use Rattle.cut_model.specs.declared.steps.Step.{Step}
use Rattle.plan_trace.specs.declared.laid.Laid.{Laid}
use Rattle.plan_trace.specs.Marks.{Spot}
use Rattle.plan_trace.specs.TraceRules.{KeepsTraceRule}
use Rattle.plan_trace.specs.Broken.{RuleAt, RuleHolds}
use Rattle.plan_trace.specs.inner.Laid.{ahead, cut_of, no_step}
use Rattle.plan_trace.proofs.Breaches.{seven_before}
use Rattle.plan_trace.proofs.Walks.{fitted_here, lying_all, more_kept, rule_here, walk_next, walk_start, all_kept}
use Rattle.plan_trace.proofs.LaidLemmas.{not_both}
use Rattle.plan_trace.proofs.meeting.first_step.Goals as goal

pub loop-i-init : goal.loop-i-init
loop-i-init c = rw c.none-last.ensures (walk_start c.args.ground.instance.now c.args.steps.now, λ j lt. absurd (omega (arith, lt)))

pub keeps-requires : goal.keeps-requires
keeps-requires c =
    let b = c.args.ground.instance.now in
    let ss = c.args.steps.now in
    record {
      fitted = λ on.
          let seven = seven_before (RuleHolds b ss) c.args.rule on c.requires.before in
          rw c.next-here.ensures.value
          (fitted_here b ss c.loop-i.i no_step c.loop-i.last (omega arith) c.loop-i.invariant.0
          (lying_all b c.next-here.ensures.rules ss seven));
    }

pub returns-then-not-keeps : goal.returns-then-not-keeps
returns-then-not-keeps c =
    let b = c.args.ground.instance.now in
    let ss = c.args.steps.now in
    let i = c.loop-i.i in
    let last = c.loop-i.last in
    let rule = c.args.rule in
    let at = rule_here b ss i rule no_step last (omega arith) c.loop-i.invariant.0 in
    let here : Laid = c.next-here.result in
    let Kept : List Spot → Type 0 = KeepsTraceRule b rule last.level (cut_of last) here.level (cut_of here) in
    let Tells : List Step → Type 0 = λ later. IsTrue c.keeps.result ↔ Kept (ahead later) in
    let test = subst Tells (take_rest ss (i + 1)) c.keeps.ensures in
    record {
      broken = λ kept. not_both c.keeps.result c.if-not-keeps.true (test.1 (rw c.next-here.ensures.value (at.0 kept)));
      steps_before = c.loop-i.invariant.1;
    }

pub loop-i-preserved : goal.loop-i-preserved
loop-i-preserved c =
    let b = c.args.ground.instance.now in
    let ss = c.args.steps.now in
    let i = c.loop-i.i in
    let last = c.loop-i.last in
    let rule = c.args.rule in
    let at = rule_here b ss i rule no_step last (omega arith) c.loop-i.invariant.0 in
    let here : Laid = c.next-here.result in
    let Kept : List Spot → Type 0 = KeepsTraceRule b rule last.level (cut_of last) here.level (cut_of here) in
    let Tells : List Step → Type 0 = λ later. IsTrue c.keeps.result ↔ Kept (ahead later) in
    let test = subst Tells (take_rest ss (i + 1)) c.keeps.ensures in (
      rw c.next-here.ensures.value (walk_next b ss i no_step last (omega arith) c.loop-i.invariant.0),
      more_kept (RuleAt b ss rule) i c.loop-i.invariant.1 (at.1 (rw c.next-here.ensures.value at (test.0 c.if-not-keeps.false))),
    )

pub returns : goal.returns
returns c = all_kept c.args.ground.instance.now c.args.steps.now c.args.rule c.loop-i.i (omega arith) c.loop-i.invariant.1
