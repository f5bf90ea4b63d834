use Rattle.std.proofs.Common.{◌≡◌, drop}
use Rattle.plan_trace.specs.TraceRules.{is_last_band}
use Rattle.cert_check.specs.inner.Knowns.{levels_in}
use Rattle.cert_check.proofs.looks.is_last_band.Given as goal

abbrev pub invariant-loop-step : goal.invariant-loop-step
invariant-loop-step l = is_last_band l.end (levels_in (drop l.step-index l.later)) ≡ is_last_band l.end (levels_in l.later)
