use Rattle.std.proofs.Common.{◌≡◌, ℕ, ◌<◌, get_or, None}
use Rattle.front_table.specs.declared.lanes.RowLane.{RowLane}
use Rattle.front_table.proofs.lanes.labels_left.Given as goal

abbrev pub invariant-loop-lane : goal.invariant-loop-lane
invariant-loop-lane l = (i : ℕ) (d : RowLane) → i < l.lane-index → (get_or l.lanes i d).halt ≡ None
