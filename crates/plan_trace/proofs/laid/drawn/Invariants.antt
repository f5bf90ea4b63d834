use Rattle.std.proofs.Common.{◌≡◌, ◌≤◌, take}
use Rattle.plan_trace.specs.Marks.{drawn}
use Rattle.plan_trace.specs.inner.Laid.{draws_of}
use Rattle.plan_trace.proofs.laid.drawn.Given as goal

abbrev pub invariant-loop-step : goal.invariant-loop-step
invariant-loop-step l = (l.count ≡ drawn (draws_of (take l.step-index l.before)) l.stack) × (l.count ≤ l.step-index)
