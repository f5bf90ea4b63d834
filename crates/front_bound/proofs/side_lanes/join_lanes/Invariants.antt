use Rattle.std.proofs.Common.{ℕ, ◌<◌, get_or}
use Rattle.front_table.specs.Pools.{HeldAt, Spreads}
use Rattle.front_bound.specs.declared.side_lanes.SideLane.{SideLane}
use Rattle.front_bound.proofs.side_lanes.join_lanes.Given as goal

abbrev pub invariant-loop-lane : goal.invariant-loop-lane
invariant-loop-lane l = record {
  spreads : Spreads l.below l.fn.sides l.sides;
  held : (i : ℕ) (d : SideLane) → i < l.lane-index → (n x y : ℕ) → HeldAt (get_or l.lanes i d).offered n x y → HeldAt l.sides n x y;
}
