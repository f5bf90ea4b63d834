use Rattle.std.proofs.Common.{◌≡◌, ◌≤◌, ◌+◌, length, max, drop, All}
use Rattle.glass_base.specs.Items.{IsDefectInRange}
use Rattle.stock_csv.specs.DefectRows.{defect_at}
use Rattle.csv_table.specs.Readings.{each_row}
use Rattle.csv_table.proofs.Tables.{with_front}
use Rattle.stock_csv.proofs.defects.defects_in.Given as goal

abbrev pub decreases-rows : goal.decreases-rows
decreases-rows l = length l.rows

abbrev pub invariant-rows : goal.invariant-rows
invariant-rows l = record {
  same : with_front l.defects.items (each_row defect_at (l.row + 1) l.rows) ≡ each_row defect_at 2 (drop 1 l.fn.rows);
  in_range : All IsDefectInRange l.defects.items;
  few : l.row + length l.rows ≤ max 1 (length l.fn.rows);
}
