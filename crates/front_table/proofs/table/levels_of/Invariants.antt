use Rattle.std.proofs.Common.{◌≤◌, All, length}
use Rattle.front_table.specs.Lanes.{IsReady}
use Rattle.front_table.specs.Ready.{Built}
use Rattle.front_table.proofs.table.levels_of.Given as goal

abbrev pub invariant-loop : goal.invariant-loop
invariant-loop g l = record {
  some : 1 ≤ length l.lanes.items;
  ready : All (IsReady (length l.fn.fronts.rows.now)) l.lanes.items;
  built : Built l.fn.fronts.instance.now l.fn.fronts.rows.now l.fn.fronts.tops.now l.fn.fronts.cover l.levels.items;
}
