-- What a row of a solution text says, by its fields.
use Rattle.std.specs.Prelude.{◌==◌, ℕ, zero, suc, ℤ, pos, negsuc, List, [], ◌∷◌, length, position, nat_le, if◌then◌else◌, Option, Some, None, option_and_then, option_map, Result, Ok, Err, ok_or}
use Rattle.std.specs.Result.{result_ok}
use Rattle.csv.specs.Records.{field_at}
use Rattle.cut_model.specs.declared.family.Row.{Row}
use Rattle.csv_table.specs.declared.number.Decimal.{Decimal}
use Rattle.csv_table.specs.Numbers.{is_point, number_at, trimmed}
use Rattle.csv_table.specs.Readings.{◌>>=◌, whole_in}
use Rattle.plan_csv.specs.declared.bad_plan.BadPlan.{BadPlan}
use Rattle.plan_csv.specs.declared.bad_plan.BadPlan.TheVariants as bad
use Rattle.glass_base.specs.declared.limits.TheConstants.{MOST_NUMBER, MOST_SIDE}

-- a whole number of at most `most`
abbrev pub number_in : ℕ → ℕ → ℕ → Option (List ℕ) → Result ℕ BadPlan
number_in row column most field = ok_or (result_ok (whole_in row column most field)) (bad.Number row column)

-- the number that a text says which has no blanks at its ends, where it has no decimals
abbrev pub whole_text : List ℕ → Option ℕ
whole_text text = option_and_then (λ (n : Decimal). if n.millionths == 0 then Some n.whole else None) (number_at text (position is_point text))

-- a type behind a minus sign: -1, -2 or -3, and -0 for item 0
abbrev pub signed_type : Option ℕ → Option ℤ
signed_type None = None
signed_type (Some zero) = Some (pos 0)
signed_type (Some (suc n)) = if nat_le n 2 then Some (negsuc n) else None

-- the type that a text without blanks at its ends says: the number of an item, or one minus sign directly before the digits
abbrev pub type_text : List ℕ → Option ℤ
type_text [] = None
type_text (byte ∷ text) = if byte == 45 then signed_type (whole_text text) else option_map (λ n. pos n) (whole_text (byte ∷ text))

abbrev pub type_in : ℕ → Option (List ℕ) → Result ℤ BadPlan
type_in row field = ok_or (option_and_then (λ text. type_text (trimmed text)) field) (bad.Number row 7)

-- the parent's node number, or none where the field has no byte
abbrev pub parent_in : ℕ → Option (List ℕ) → Result (Option ℕ) BadPlan
parent_in row None = Err (bad.Number row 9)
parent_in row (Some []) = Ok None
parent_in row (Some (byte ∷ text)) = number_in row 9 MOST_NUMBER (Some (byte ∷ text)) >>= λ n. Ok (Some n)

-- a row: nine fields, in the order of the columns
unfoldable pub row_in : ℕ → List (List ℕ) → Result Row BadPlan
row_in row fields =
    if length fields == 9 then (do
      plate ← number_in row 1 MOST_NUMBER (field_at fields 0)
      node ← number_in row 2 MOST_NUMBER (field_at fields 1)
      x ← number_in row 3 MOST_SIDE (field_at fields 2)
      y ← number_in row 4 MOST_SIDE (field_at fields 3)
      width ← number_in row 5 MOST_SIDE (field_at fields 4)
      height ← number_in row 6 MOST_SIDE (field_at fields 5)
      kind ← type_in row (field_at fields 6)
      cut ← number_in row 8 4 (field_at fields 7)
      parent ← parent_in row (field_at fields 8)
      Ok (record {
        plate = plate;
        node = node;
        x = x;
        y = y;
        width = width;
        height = height;
        kind = kind;
        cut = cut;
        parent = parent;
      }))
    else Err (bad.Record row (length fields))
