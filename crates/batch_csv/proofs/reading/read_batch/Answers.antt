use Rattle.std.proofs.Common.{◌≡◌, ◌∙◌, drop, ap}
use Rattle.csv_table.specs.Rows.{table_rows}
use Rattle.batch_csv.proofs.ItemRows.{begun}
use Rattle.batch_csv.proofs.reading.read_batch.Goals as goal

pub returns-clause-items : goal.returns-clause-items
returns-clause-items c =
    let left : c.next_row.new.self ≡ drop 1 (table_rows c.args.bytes.now) =
    begun _ _ c.in_ok-next_row.field-0 c.in_ok-next_row.ensures.ok ∙ ap (drop 1) c.new-rows.ensures.value in
    rw left at c.items_below.ensures.items
