-- Bands of cells, and strips of bands.
use Rattle.std.specs.Prelude.{ℕ, ◌+◌, ◌≤◌, List, [], ◌∷◌, length}
use Rattle.glass_base.specs.Problem.{Problem}
use Rattle.plan_trace.specs.TraceRules.{Gap}
use Rattle.front_course.specs.Fronts.{Front}
use Rattle.front_course.specs.Cells.{Cell, AllStand, after_cells, cells_width}

-- a band of this height, and its cells
pub record Band : Type 0 where
  pub high : ℕ
  pub cells : List Cell

-- it is a band of a strip of this width: its cells stand in it, and fill the width up to a gap
pub record IsBand (b : Problem) (width : ℕ) (f : Front) (band : Band) : Type 0 where
  pub some : 1 ≤ length band.cells
  pub tall : b.params.min2 ≤ band.high
  pub stand : AllStand b band.high f band.cells
  pub fill : Gap b.params.waste (cells_width b f band.cells) width

-- bands one above the other
abbrev pub after_bands : Front → List Band → Front
after_bands f [] = f
after_bands f (band ∷ bands) = after_bands (after_cells f band.cells) bands

abbrev pub bands_height : List Band → ℕ
bands_height [] = 0
bands_height (band ∷ bands) = band.high + bands_height bands

abbrev pub AreBands : Problem → ℕ → Front → List Band → Type 0
AreBands b width f [] = Unit {0}
AreBands b width f (band ∷ bands) = IsBand b width f band × AreBands b width (after_cells f band.cells) bands

-- bands can be those of a strip of this width: they fill the height up to a gap
pub record IsStrip (b : Problem) (width : ℕ) (f : Front) (bands : List Band) : Type 0 where
  pub some : 1 ≤ length bands
  pub wide : b.params.min1 ≤ width
  pub narrow : width ≤ b.params.max1
  pub each : AreBands b width f bands
  pub fill : Gap b.params.waste (bands_height bands) b.params.height
