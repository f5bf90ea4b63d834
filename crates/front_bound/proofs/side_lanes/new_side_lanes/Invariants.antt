use Rattle.std.proofs.Common.{◌≤◌, All, length}
use Rattle.front_bound.specs.inner.SideLanes.{HasRoom}
use Rattle.front_bound.proofs.side_lanes.new_side_lanes.Given as goal

abbrev pub invariant-loop : goal.invariant-loop
invariant-loop l = record {
  some : 1 ≤ length l.lanes.items;
  room : All (HasRoom l.rows) l.lanes.items;
}
