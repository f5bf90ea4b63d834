use Rattle.std.proofs.Common.{◌≡◌, drop}
use Rattle.plan_trace.specs.TraceRules.{is_last_cell}
use Rattle.box_bound.specs.inner.Drawn.{levels_of}
use Rattle.box_bound.proofs.looks.is_last_cell.Given as goal

abbrev pub invariant-loop-step : goal.invariant-loop-step
invariant-loop-step l = is_last_cell l.end (levels_of (drop l.step-index l.later)) ≡ is_last_cell l.end (levels_of l.later)
