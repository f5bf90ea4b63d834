use Rattle.std.proofs.Common.{◌≡◌, ◌≤◌, ◌+◌, length, max, drop}
use Rattle.csv_table.specs.Readings.{each_row}
use Rattle.glass_base.specs.Widths.{AreWidths, same_widths}
use Rattle.stock_csv.specs.PlateRows.{plate_at, with_width}
use Rattle.stock_csv.proofs.Sets.{set_all}
use Rattle.stock_csv.proofs.plates.widths_in.Given as goal

abbrev pub decreases-rows : goal.decreases-rows
decreases-rows l = length l.rows

abbrev pub invariant-rows : goal.invariant-rows
invariant-rows l = record {
  same : set_all with_width l.widths.items (each_row plate_at (l.row + 1) l.rows) ≡ set_all with_width (same_widths l.params) (each_row plate_at 2 (drop 1 l.fn.rows));
  ranges : AreWidths l.params l.widths.items;
  few : l.row + length l.rows ≤ max 1 (length l.fn.rows);
}
