-- Lists of widths, one for each plate.
use Rattle.std.specs.Prelude.{◌≡◌, ℕ, ◌≤◌, List, length, replicate, All}
use Rattle.glass_base.specs.declared.params.Params.{Params}
use Rattle.glass_base.specs.declared.limits.TheConstants.{MOST_SIDE}

-- a width in mm that a plate may have
abbrev pub IsWidth : ℕ → Type 0
IsWidth width = (1 ≤ width) × (width ≤ MOST_SIDE)

-- one width for each plate
pub record AreWidths (params : Params) (widths : List ℕ) : Type 0 where
  pub many : length widths ≡ params.plates
  pub each : All IsWidth widths

-- each plate has the parameters' width
abbrev pub same_widths : Params → List ℕ
same_widths params = replicate params.plates params.width
