use Rattle.std.proofs.Common.{◌≤◌, length}
use Rattle.defect_map.specs.inner.Columns.{KeepsAll}
use Rattle.defect_map.proofs.columns.reach.Given as goal

abbrev pub invariant-loop : goal.invariant-loop
invariant-loop l = record {
  many : l.counter ≤ length l.columns.items;
  kept : KeepsAll l.fn.columns.items l.columns.items;
}
