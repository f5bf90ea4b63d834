use Rattle.std.proofs.Common.{◌≡◌, ◌≤◌, ◌+◌, length, All}
use Rattle.glass_base.specs.Items.{IsItemInRange}
use Rattle.batch_csv.specs.Batches.{item_at}
use Rattle.csv_table.specs.Readings.{each_row}
use Rattle.csv_table.proofs.Tables.{with_front}
use Rattle.batch_csv.proofs.reading.items_below.Given as goal

abbrev pub decreases-rows : goal.decreases-rows
decreases-rows l = length l.rows

abbrev pub invariant-rows : goal.invariant-rows
invariant-rows l = record {
  same : with_front l.items.items (each_row item_at (l.row + 1) l.rows) ≡ each_row item_at 2 l.fn.rows;
  in_range : All IsItemInRange l.items.items;
  few : l.row + length l.rows ≤ 1 + length l.fn.rows;
}
