use Rattle.std.proofs.Common.{◌≡◌, ℕ, ◌<◌, get_or, None}
use Rattle.front_bound.specs.declared.side_lanes.SideLane.{SideLane}
use Rattle.front_bound.proofs.side_lanes.labels_left_behind.Given as goal

abbrev pub invariant-loop-lane : goal.invariant-loop-lane
invariant-loop-lane l = (i : ℕ) (d : SideLane) → i < l.lane-index → (get_or l.lanes i d).halt ≡ None
