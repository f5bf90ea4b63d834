use Rattle.std.proofs.Common.{◌≡◌, ◌<◌, ℕ, false, map}
use Rattle.plan_box.specs.inner.Openings.{is_open}
use Rattle.plan_box.specs.Packed.{unpacked}
use Rattle.cert_check.proofs.free.is_point.Given as goal

abbrev pub invariant-loop-step : goal.invariant-loop-step
invariant-loop-step l = (n : ℕ) → n < l.step → is_open (map unpacked l.ranges) n ≡ false
