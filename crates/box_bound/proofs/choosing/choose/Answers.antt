use Rattle.std.proofs.Common.{◌≡◌, ◌<◌, ℕ, arith, false}
use Rattle.plan_box.specs.declared.var.Var.{Var}
use Rattle.plan_box.specs.Decisions.{is_discrete, is_free}
use Rattle.box_bound.proofs.Chosen.{point_of}
use Rattle.box_bound.proofs.choosing.choose.Goals as goal

pub returns : goal.returns
returns c =
    let cuts : (step : ℕ) → step < c.decided-decided.result → (v : Var) → is_discrete v ≡ false → is_free c.args.bx.now.ranges step v ≡ false = λ step lt. c.loop-step.invariant step (omega (arith, lt, c.loop-step-test.false)) in
    point_of c.args.bx.now.ranges c.decided-decided.result c.decided-decided.ensures c.in_default.ensures cuts
