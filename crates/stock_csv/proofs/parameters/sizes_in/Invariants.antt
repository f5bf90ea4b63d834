use Rattle.std.proofs.Common.{◌≡◌, ◌≤◌, ◌+◌, length, max, drop}
use Rattle.csv_table.specs.Readings.{each_row}
use Rattle.glass_base.specs.Sizes.{usual_sizes}
use Rattle.stock_csv.specs.Settings.{setting_at}
use Rattle.stock_csv.proofs.Sets.{set_by_all}
use Rattle.stock_csv.proofs.parameters.sizes_in.Given as goal

abbrev pub decreases-rows : goal.decreases-rows
decreases-rows l = length l.rows

abbrev pub invariant-rows : goal.invariant-rows
invariant-rows l = record {
  same : set_by_all l.sizes (each_row setting_at (l.row + 1) l.rows) ≡ set_by_all usual_sizes (each_row setting_at 2 (drop 1 l.fn.rows));
  few : l.row + length l.rows ≤ max 1 (length l.fn.rows);
}
