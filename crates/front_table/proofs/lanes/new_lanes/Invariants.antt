use Rattle.std.proofs.Common.{◌≤◌, All, length}
use Rattle.front_table.specs.Lanes.{IsReady}
use Rattle.front_table.proofs.lanes.new_lanes.Given as goal

abbrev pub invariant-loop : goal.invariant-loop
invariant-loop l = record {
  some : 1 ≤ length l.lanes.items;
  ready : All (IsReady l.rows) l.lanes.items;
}
