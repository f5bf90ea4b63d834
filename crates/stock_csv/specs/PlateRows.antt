-- The widths of plates that a plates file says, or its first refusal.
use Rattle.std.specs.Prelude.{◌==◌, ℕ, List, length, fold, slice_set, if◌then◌else◌, Result, Ok, Err}
use Rattle.csv.specs.Records.{field_at}
use Rattle.glass_base.specs.Widths.{same_widths}
use Rattle.glass_base.specs.declared.bad_text.BadText.{BadText}
use Rattle.glass_base.specs.declared.bad_text.BadText.TheVariants as bad
use Rattle.glass_base.specs.declared.params.Params.{Params}
use Rattle.csv_table.specs.Readings.{◌>>=◌, table, whole_in}
use Rattle.stock_csv.specs.declared.plates.PlateWidth.{PlateWidth}
use Rattle.glass_base.specs.declared.limits.TheConstants.{MOST_NUMBER, MOST_SIDE}

-- a plate of this width, which is not 0
abbrev pub wide_plate : ℕ → ℕ → ℕ → Result PlateWidth BadText
wide_plate row plate width = if width == 0 then Err (bad.ZeroWidth row) else Ok (record { plate = plate; width = width })

-- the plate of a row and its width in mm
unfoldable pub plate_at : ℕ → List (List ℕ) → Result PlateWidth BadText
plate_at row fields =
    if length fields == 2 then (do
      plate ← whole_in row 1 MOST_NUMBER (field_at fields 0)
      width ← whole_in row 2 MOST_SIDE (field_at fields 1)
      wide_plate row plate width)
    else Err (bad.Record row (length fields))

-- the widths with that of one plate set; nothing is set for a plate that there is not
abbrev pub with_width : List ℕ → PlateWidth → List ℕ
with_width widths p = slice_set widths p.plate p.width

-- the parameters' width for each plate but those that are named: of a repeated plate the last row counts
abbrev pub widths_of : Params → List PlateWidth → List ℕ
widths_of params plates = fold with_width (same_widths params) plates

-- the widths that a plates file says, one for each plate of the parameters
abbrev pub widths_said : Params → List ℕ → Result (List ℕ) BadText
widths_said params bytes = table plate_at bytes >>= λ plates. Ok (widths_of params plates)
