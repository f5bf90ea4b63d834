use Rattle.std.proofs.Common.{◌≡◌, ◌+◌, ◌∙◌, length, sym, arith}
use Rattle.std.proofs.lemmas.List.Elements.{All-push}
use Rattle.csv.specs.Records.{fields_of}
use Rattle.stock_csv.specs.DefectRows.{defect_at}
use Rattle.glass_base.specs.Items.{IsDefectInRange}
use Rattle.csv_table.proofs.Tables.{with_front-more}
use Rattle.stock_csv.proofs.defects.defects_in.Goals as goal

pub rows-preserved : goal.rows-preserved
rows-preserved c =
    let items = c.in_ok-append.ensures.ok in
    let rest = rw c.in-Some.is at c.in_ok-fields.ensures.ok in
    let more = with_front-more defect_at c.rows.defects.items (c.rows.row + 1) (fields_of c.in-Some.fields) c.next_row-in-rows.new.self c.in_ok-defect_of.field-0 (sym c.defect_of.ensures.value ∙ c.in_ok-defect_of.was) in
    let size : length c.rows.rows ≡ length c.next_row-in-rows.new.self + 1 = rw rest (omega arith) in
    record {
      same = rw items more ∙ rw rest at c.rows.invariant.same;
      in_range = rw items (All-push IsDefectInRange c.rows.defects.items c.in_ok-defect_of.field-0 c.rows.invariant.in_range c.in_ok-defect_of.ensures.range);
      few = omega (arith, c.rows.invariant.few, size);
    }
