use Rattle.std.proofs.Common.{◌≡◌, ◌≤◌, drop, length}
use Rattle.plan_trace.specs.Canonical.{grown}
use Rattle.plan_trace.specs.inner.Piles.{grown_of, spots_of}
use Rattle.plan_trace.proofs.growing.grow.Given as goal

abbrev pub invariant-loop-left : goal.invariant-loop-left
invariant-loop-left l = (grown_of l.growth ≡ grown l.instance (spots_of (drop l.left l.steps))) × (l.left ≤ length l.steps)

abbrev pub decreases-loop-left : goal.decreases-loop-left
decreases-loop-left l = l.left
