use Rattle.std.proofs.Common.{◌≡◌, ◌<◌, ℕ, false}
use Rattle.plan_box.specs.declared.var.Var.{Var}
use Rattle.plan_box.specs.Decisions.{is_discrete, is_free}
use Rattle.box_bound.proofs.choosing.choose.Given as goal

abbrev pub invariant-loop-step : goal.invariant-loop-step
invariant-loop-step l = (n : ℕ) → n < l.step → (v : Var) → is_discrete v ≡ false → is_free l.bx.ranges n v ≡ false
