use Rattle.std.proofs.Common.{◌≡◌, ◌+◌, ◌∙◌, length, sym, arith}
use Rattle.csv.specs.Records.{fields_of}
use Rattle.stock_csv.specs.PlateRows.{plate_at, with_width}
use Rattle.stock_csv.proofs.PlateSets.{are_widths-set}
use Rattle.stock_csv.proofs.Sets.{set_more}
use Rattle.stock_csv.proofs.plates.widths_in.Goals as goal

pub rows-preserved : goal.rows-preserved
rows-preserved c =
    let rest = rw c.in-Some.is at c.in_ok-fields.ensures.ok in
    let p = c.in_ok-plate_of.field-0 in
    let more = set_more with_width plate_at c.rows.widths.items (c.rows.row + 1) (fields_of c.in-Some.fields) c.next_row-in-rows.new.self p (sym c.plate_of.ensures.value ∙ c.in_ok-plate_of.was) in
    let size : length c.rows.rows ≡ length c.next_row-in-rows.new.self + 1 = rw rest (omega arith) in
    record {
      same = rw c.set_width.ensures more ∙ rw rest at c.rows.invariant.same;
      ranges = rw c.set_width.ensures (are_widths-set c.args.params.now c.rows.widths.items p c.rows.invariant.ranges c.in_ok-plate_of.ensures.range);
      few = omega (arith, c.rows.invariant.few, size);
    }
