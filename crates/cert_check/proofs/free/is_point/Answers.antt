use Rattle.std.proofs.Common.{arith, refl, map}
use Rattle.std.proofs.lemmas.List.{length-map}
use Rattle.plan_box.proofs.Closed.{point_from}
use Rattle.plan_box.proofs.Probed.{point_decided}
use Rattle.plan_box.specs.Packed.{unpacked}
use Rattle.cert_check.proofs.free.is_point.Goals as goal

pub returns : goal.returns
returns c =
    (λ _. point_from (map unpacked c.args.ranges.now) c.loop-step.step (omega (arith, length-map c.args.ranges.now unpacked, c.loop-step-test.false)) c.loop-step.invariant, λ _. refl)

pub returns-then-decided_steps-ranges : goal.returns-then-decided_steps-ranges
returns-then-decided_steps-ranges c =
    (λ none. absurd (cc none), λ point. absurd (omega (arith, length-map c.args.ranges.now unpacked, c.if-decided_steps-ranges.true, c.count_decided-decided_steps.ensures, point_decided (map unpacked c.args.ranges.now) point)))
