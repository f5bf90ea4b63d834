use Rattle.std.proofs.Common.{arith, refl}
use Rattle.plan_box.proofs.Closed.{point_from}
use Rattle.plan_box.proofs.Probed.{point_decided}
use Rattle.plan_box.proofs.Stored.{box_from}
use Rattle.plan_box.proofs.boxes.PlanBox.is_point.Goals as goal

pub returns : goal.returns
returns c =
    let count = (box_from c.self.inside.id c.self.inside.frame c.self.inside.stored.items c.args.self.now c.self.invariant c.self.view_is).1 in
    (λ _. point_from c.args.self.now.ranges c.loop-step.step (omega (arith, count, c.loop-step-test.false)) c.loop-step.invariant, λ _. refl)

pub returns-then-decided-self : goal.returns-then-decided-self
returns-then-decided-self c =
    let box = box_from c.self.inside.id c.self.inside.frame c.self.inside.stored.items c.args.self.now c.self.invariant c.self.view_is in
    (λ none. absurd (cc none), λ point. absurd (omega (arith, box.1, c.if-decided-self.true, c.decided.ensures, point_decided c.args.self.now.ranges point)))
