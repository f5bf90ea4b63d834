-- The items that a batch file says, or its first refusal.
use Rattle.std.specs.Prelude.{◌==◌, ℕ, List, length, if◌then◌else◌, Result, Ok, Err}
use Rattle.csv.specs.Records.{field_at}
use Rattle.glass_base.specs.declared.bad_text.BadText.{BadText}
use Rattle.glass_base.specs.declared.bad_text.BadText.TheVariants as bad
use Rattle.glass_base.specs.declared.item.Item.{Item}
use Rattle.csv_table.specs.Readings.{◌>>=◌, table, whole_in}
use Rattle.glass_base.specs.declared.limits.TheConstants.{MOST_NUMBER, MOST_SIDE}

-- the item of a row: its number, its two sides, its stack and its place in the stack
unfoldable pub item_at : ℕ → List (List ℕ) → Result Item BadText
item_at row fields =
    if length fields == 5 then (do
      id ← whole_in row 1 MOST_NUMBER (field_at fields 0)
      length ← whole_in row 2 MOST_SIDE (field_at fields 1)
      width ← whole_in row 3 MOST_SIDE (field_at fields 2)
      stack ← whole_in row 4 MOST_NUMBER (field_at fields 3)
      sequence ← whole_in row 5 MOST_NUMBER (field_at fields 4)
      Ok (record { id = id; length = length; width = width; stack = stack; sequence = sequence }))
    else Err (bad.Record row (length fields))

-- the items of a batch, one for each row
abbrev pub items_of : List ℕ → Result (List Item) BadText
items_of bytes = table item_at bytes
