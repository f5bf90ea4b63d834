-- The parameters that a parameters file says, or its first refusal.
use Rattle.std.specs.Prelude.{◌≡◌, ◌==◌, ℕ, List, length, if◌then◌else◌, codes, fold, Option, Some, None, option_and_then, Result, Ok, Err}
use Rattle.std.specs.Option.{option_map_or}
use Rattle.std.specs.Str.{bytes_eq}
use Rattle.csv.specs.Records.{field_at}
use Rattle.glass_base.specs.Sizes.{AreSizes, RefusesSizes, usual_sizes}
use Rattle.glass_base.specs.declared.bad_text.BadText.{BadText}
use Rattle.glass_base.specs.declared.bad_text.BadText.TheVariants as bad
use Rattle.glass_base.specs.declared.params.Params.{Params}
use Rattle.glass_base.specs.declared.sizes.Sizes.{Sizes}
use Rattle.csv_table.specs.Numbers.{trimmed}
use Rattle.csv_table.specs.Readings.{◌>>=◌, Fails, table, whole_in}
use Rattle.stock_csv.specs.declared.parameters.Name.{Name}
use Rattle.stock_csv.specs.declared.parameters.Name.TheVariants.{Plates, Width, Height, Min1, Max1, Min2, Waste}
use Rattle.stock_csv.specs.declared.parameters.ParameterRow.{ParameterRow}
use Rattle.glass_base.specs.declared.limits.TheConstants.{MOST_NUMBER}

-- the parameter of this name, which is compared byte by byte
abbrev pub parameter_named : List ℕ → Option Name
parameter_named name =
    if bytes_eq name (codes "nPlates") then Some Plates
    else if bytes_eq name (codes "widthPlates") then Some Width
    else if bytes_eq name (codes "heightPlates") then Some Height
    else if bytes_eq name (codes "min1Cut") then Some Min1
    else if bytes_eq name (codes "max1Cut") then Some Max1
    else if bytes_eq name (codes "min2Cut") then Some Min2
    else if bytes_eq name (codes "minWaste") then Some Waste
    else None

-- the parameter that a field names, between blanks
abbrev pub parameter_in : Option (List ℕ) → Option Name
parameter_in field = option_and_then (λ name. parameter_named (trimmed name)) field

-- a row of another name is ignored with its value
abbrev pub setting : ℕ → Option Name → Option (List ℕ) → Result (Option ParameterRow) BadText
setting row None value = Ok None
setting row (Some name) value = whole_in row 2 MOST_NUMBER value >>= λ n. Ok (Some (record { name = name; value = n }))

-- what a row sets, if anything: a name and its value
unfoldable pub setting_at : ℕ → List (List ℕ) → Result (Option ParameterRow) BadText
setting_at row fields =
    if length fields == 2 then setting row (parameter_in (field_at fields 0)) (field_at fields 1) else Err (bad.Record row (length fields))

-- the sizes with this one set
abbrev pub set_to : Sizes → Name → ℕ → Sizes
set_to s Plates n = record s { plates = n }
set_to s Width n = record s { width = n }
set_to s Height n = record s { height = n }
set_to s Min1 n = record s { min1 = n }
set_to s Max1 n = record s { max1 = n }
set_to s Min2 n = record s { min2 = n }
set_to s Waste n = record s { waste = n }

abbrev pub set_by : Sizes → Option ParameterRow → Sizes
set_by s said = option_map_or (λ (x : ParameterRow). set_to s x.name x.value) said s

-- the usual sizes with those that are set: of a repeated name the last row counts
abbrev pub sizes_of : List (Option ParameterRow) → Sizes
sizes_of settings = fold set_by usual_sizes settings

abbrev pub settings_of : List ℕ → Result (List (Option ParameterRow)) BadText
settings_of bytes = table setting_at bytes

-- a reader refused the text for its first reason, or the sizes that it says for the first rule that they break, or memory ran out
abbrev pub RefusesSettings : BadText → Result (List (Option ParameterRow)) BadText → Type 0
RefusesSettings e (Err said) = Fails {Y = List (Option ParameterRow)} e (Err said)
RefusesSettings bad.Memory (Ok settings) = Unit {0}
RefusesSettings (bad.Params reason) (Ok settings) = RefusesSizes reason (sizes_of settings)
RefusesSettings (bad.Record row fields) (Ok settings) = ⊥
RefusesSettings (bad.Number row column) (Ok settings) = ⊥
RefusesSettings (bad.Range row column) (Ok settings) = ⊥
RefusesSettings (bad.EmptyDefect row) (Ok settings) = ⊥
RefusesSettings (bad.ZeroWidth row) (Ok settings) = ⊥

-- the parameters that settings make
abbrev pub ReadAs : Params → Result (List (Option ParameterRow)) BadText → Type 0
ReadAs p (Ok settings) = AreSizes p (sizes_of settings)
ReadAs p (Err e) = ⊥

-- the sizes that settings make, or the refusal of their text, or memory ran out
abbrev pub GivesSizes : Result Sizes BadText → Result (List (Option ParameterRow)) BadText → Type 0
GivesSizes (Ok sizes) (Ok settings) = sizes ≡ sizes_of settings
GivesSizes (Ok sizes) (Err e) = ⊥
GivesSizes (Err e) said = Fails e said
