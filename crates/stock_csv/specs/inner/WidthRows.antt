-- The widths that the rows of a plates file say.
use Rattle.std.specs.Prelude.{ℕ, List, Result, Ok}
use Rattle.glass_base.specs.declared.bad_text.BadText.{BadText}
use Rattle.glass_base.specs.declared.params.Params.{Params}
use Rattle.csv_table.specs.Readings.{◌>>=◌}
use Rattle.stock_csv.specs.PlateRows.{widths_of}
use Rattle.stock_csv.specs.declared.plates.PlateWidth.{PlateWidth}

-- the widths by the plates that were read, or their first refusal
abbrev pub widths_by : Params → Result (List PlateWidth) BadText → Result (List ℕ) BadText
widths_by params said = said >>= λ plates. Ok (widths_of params plates)
