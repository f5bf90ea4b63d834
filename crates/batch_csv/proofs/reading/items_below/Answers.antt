use Rattle.std.proofs.Common.{◌≡◌, ◌+◌, ◌∙◌, [], length, ap, sym, append-nil, Ok, arith, rules}
use Rattle.std.proofs.lemmas.List.Elements.{All-push}
use Rattle.csv.specs.Records.{fields_of}
use Rattle.batch_csv.specs.Batches.{item_at}
use Rattle.glass_base.specs.Items.{IsItemInRange}
use Rattle.csv_table.proofs.Tables.{with_front-more, with_front-none}
use Rattle.batch_csv.proofs.reading.items_below.Goals as goal

pub rows-preserved : goal.rows-preserved
rows-preserved c =
    let items = c.in_ok-append.ensures.ok in
    let rest = rw c.in-Some.is at c.in_ok-fields.ensures.ok in
    let more = with_front-more item_at c.rows.items.items (c.rows.row + 1) (fields_of c.in-Some.fields) c.next_row.new.self c.in_ok-item_of.field-0 (sym c.item_of.ensures.value ∙ c.in_ok-item_of.was) in
    let size : length c.rows.rows ≡ length c.next_row.new.self + 1 = rw rest (omega arith) in
    record {
      same = rw items more ∙ rw rest at c.rows.invariant.same;
      in_range = rw items (All-push IsItemInRange c.rows.items.items c.in_ok-item_of.field-0 c.rows.invariant.in_range c.in_ok-item_of.ensures.range);
      few = omega (arith, c.rows.invariant.few, size);
    }

pub rows-init : goal.rows-init
rows-init c =
    let empty : c.new-items.result.items ≡ [] = search rules in
    record {
      same = rw empty (with_front-none _);
      in_range = rw empty (λ k d less. absurd (omega arith));
      few = omega arith;
    }

pub returns-clause-items : goal.returns-clause-items
returns-clause-items c =
    let ended : c.rows.rows ≡ [] = search rules in
    sym c.rows.invariant.same ∙ rw ended (ap Ok (append-nil c.rows.items.items))

pub returns-clause-ranges : goal.returns-clause-ranges
returns-clause-ranges c = c.rows.invariant.in_range
