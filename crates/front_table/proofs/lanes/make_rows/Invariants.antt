use Rattle.std.proofs.Common.{All, length}
use Rattle.front_table.specs.Lanes.{IsMade, IsReady}
use Rattle.front_table.proofs.lanes.make_rows.Given as goal

abbrev pub invariant-loop-done : goal.invariant-loop-done
invariant-loop-done l = record {
  ready : IsReady (length l.level.fronts.rows.now) l.lane;
  made : All (IsMade l.level.fronts) l.lane.made.items;
}
