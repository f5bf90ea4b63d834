use Rattle.std.proofs.Common.{◌≤◌, length}
use Rattle.box_bound.proofs.filling.strip_start.Given as goal

abbrev pub invariant-loop-at : goal.invariant-loop-at
invariant-loop-at l = l.at ≤ length l.steps

abbrev pub decreases-loop-at : goal.decreases-loop-at
decreases-loop-at l = l.at
