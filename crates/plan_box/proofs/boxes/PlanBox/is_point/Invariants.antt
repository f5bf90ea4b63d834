use Rattle.std.proofs.Common.{◌≡◌, ◌<◌, ℕ, false}
use Rattle.plan_box.specs.inner.Openings.{is_open}
use Rattle.plan_box.proofs.boxes.PlanBox.is_point.Given as goal

abbrev pub invariant-loop-step : goal.invariant-loop-step
invariant-loop-step l = (n : ℕ) → n < l.step → is_open l.self.ranges n ≡ false
