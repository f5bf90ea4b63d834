use Rattle.std.proofs.Common.{rules, refl, IsTrue, ◌≤◌}
use Rattle.plan_trace.proofs.Breaches.{first_broken_not_meets}
use Rattle.plan_box.specs.Decisions.{all_decided}
use Rattle.cert_log.specs.Lawful.{no_loss}
use Rattle.box_workers.specs.Handling.{Probes}
use Rattle.box_workers.proofs.Probing.{finds_none, finds_better}
use Rattle.box_workers.proofs.handling.improve.Goals as goal

pub returns-then-not-is_decided-clause-improves : goal.returns-then-not-is_decided-clause-improves
returns-then-not-is_decided-clause-improves c =
    let small : c.args.hand.now.loss ≤ no_loss = search rules in
    let undecided : ¬ IsTrue (all_decided c.args.bx.now.ranges) = search rules in
    (no_loss, finds_none c.args.ground.instance.now c.args.bx.now.ranges _ _ _ (λ (p : Probes c.args.ground.instance.now c.args.bx.now.ranges). undecided p.decided) small refl refl)

pub returns-in-Some-clause-improves : goal.returns-in-Some-clause-improves
returns-in-Some-clause-improves c =
    let small : c.args.hand.now.loss ≤ no_loss = search rules in
    let broken = c.in-Some.broken in
    (no_loss, finds_none c.args.ground.instance.now c.args.bx.now.ranges _ _ _ (λ (p : Probes c.args.ground.instance.now c.args.bx.now.ranges). first_broken_not_meets c.args.ground.instance.now c.broken_at.new.trace.steps.items broken.rule broken.step c.in-Some.ensures.broken (search rules)) small refl refl)

pub returns-clause-improves : goal.returns-clause-improves
returns-clause-improves c =
    let k = c.keep.ensures.kept in
    let p : Probes c.args.ground.instance.now c.args.bx.now.ranges = record { not_refuted = c.requires.unrefuted; decided = search rules; meets = search rules } in
    (c.trace_loss-loss.result, finds_better _ c.args.bx.now _ _ _ _ c.trace_loss-loss.result c.broken_at.new.trace c.requires.frame c.frame-frame.ensures.rules p (search rules) (search rules) k.loss_is k.plan c.broken_at.ensures.trace c.lower.ensures.view)
