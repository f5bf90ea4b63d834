use Rattle.std.proofs.Common.{◌≡◌, drop, true}
use Rattle.plan_trace.specs.TraceRules.{is_last_band}
use Rattle.plan_trace.specs.inner.Laid.{levels_of}
use Rattle.plan_trace.proofs.laid.is_last_band.Given as goal

abbrev pub invariant-loop-step : goal.invariant-loop-step
invariant-loop-step l = is_last_band true (levels_of (drop l.step-index l.later)) ≡ is_last_band true (levels_of l.later)
