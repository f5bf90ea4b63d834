use Rattle.std.proofs.Common.{◌≡◌, drop}
use Rattle.plan_trace.specs.TraceRules.{is_last_band}
use Rattle.box_bound.specs.inner.Drawn.{levels_of}
use Rattle.box_bound.proofs.looks.is_last_band.Given as goal

abbrev pub invariant-loop-step : goal.invariant-loop-step
invariant-loop-step l = is_last_band l.end (levels_of (drop l.step-index l.later)) ≡ is_last_band l.end (levels_of l.later)
