use Rattle.std.proofs.Common.{ℕ, ◌<◌, ◌≤◌}
use Rattle.defect_map.specs.inner.Columns.{column_at, Stands, KeepsAll}
use Rattle.defect_map.proofs.columns.put_across.Given as goal

abbrev pub invariant-loop-number : goal.invariant-loop-number
invariant-loop-number l = record {
  kept : KeepsAll l.fn.columns.items l.columns.items;
  stand : (k : ℕ) → column_at l.d.plate l.d.x0 ≤ k → k < l.number → Stands l.columns.items k l.position;
}
