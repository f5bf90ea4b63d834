-- The defects that a defects file says, or its first refusal.
use Rattle.std.specs.Prelude.{◌==◌, ◌+◌, ◌/◌, ◌||◌, ℕ, List, length, if◌then◌else◌, Result, Ok, Err}
use Rattle.csv.specs.Records.{field_at}
use Rattle.glass_base.specs.declared.bad_text.BadText.{BadText}
use Rattle.glass_base.specs.declared.bad_text.BadText.TheVariants as bad
use Rattle.glass_base.specs.declared.item.Defect.{Defect}
use Rattle.csv_table.specs.Numbers.{millionths_in}
use Rattle.csv_table.specs.Readings.{◌>>=◌, measure_in, table, whole_in}
use Rattle.glass_base.specs.declared.limits.TheConstants.{MOST_NUMBER, MOST_SIDE}

-- the greatest whole number that is not above so many millionths, and the least that is not below them
abbrev pub down : ℕ → ℕ
down millionths = millionths / 1000000

abbrev pub up : ℕ → ℕ
up millionths = (millionths + 999999) / 1000000

-- the defect of this corner and these sides, widened to whole millimetres; one without a side is refused
abbrev pub widened : ℕ → ℕ → ℕ → ℕ → ℕ → ℕ → Result Defect BadText
widened row plate x y width height =
    if (width == 0) || (height == 0) then Err (bad.EmptyDefect row) else Ok (record { plate = plate; x0 = down x; y0 = down y; x1 = up (x + width); y1 = up (y + height) })

-- the defect of a row: its number, its plate, its corner and its sides
unfoldable pub defect_at : ℕ → List (List ℕ) → Result Defect BadText
defect_at row fields =
    if length fields == 6 then (do
      id ← whole_in row 1 MOST_NUMBER (field_at fields 0)
      plate ← whole_in row 2 MOST_NUMBER (field_at fields 1)
      x ← measure_in row 3 MOST_SIDE (field_at fields 2)
      y ← measure_in row 4 MOST_SIDE (field_at fields 3)
      width ← measure_in row 5 MOST_SIDE (field_at fields 4)
      height ← measure_in row 6 MOST_SIDE (field_at fields 5)
      widened row plate (millionths_in x) (millionths_in y) (millionths_in width) (millionths_in height))
    else Err (bad.Record row (length fields))

-- the defects of a file, one for each row
abbrev pub defects_of : List ℕ → Result (List Defect) BadText
defects_of bytes = table defect_at bytes
