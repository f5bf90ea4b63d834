-- Columns of 256 mm along x, in which the defects of a plate are looked up by their positions.
use Rattle.std.specs.Prelude.{◌≡◌, ℕ, ◌+◌, ◌-◌, ◌*◌, ◌/◌, ◌%◌, ◌<◌, ◌≤◌, List, slice_get, Some, Contains}
use Rattle.glass_base.specs.declared.item.Defect.{Defect}
use Rattle.smallvec.specs.SmallVec.{SmallVec}

-- the number of the column in which x lies on this plate
abbrev pub column_at : ℕ → ℕ → ℕ
column_at plate x = 80 * (plate % 1000) + x / 256

-- the position stands in the column of this number
abbrev pub Stands : List (SmallVec ℕ) → ℕ → ℕ → Type 0
Stands columns number position = (column : SmallVec ℕ) × (slice_get columns number ≡ Some column) × Contains column.items position

-- what stood in a column still stands there
abbrev pub KeepsAll : List (SmallVec ℕ) → List (SmallVec ℕ) → Type 0
KeepsAll old new = (number position : ℕ) → Stands old number position → Stands new number position

-- the position stands in each column that the inside of the defect meets
abbrev pub StandsAcross : List (SmallVec ℕ) → Defect → ℕ → Type 0
StandsAcross columns d position =
    (number : ℕ) → column_at d.plate d.x0 ≤ number → number ≤ column_at d.plate (d.x1 - 1) → Stands columns number position

-- each of the first n defects stands, by its position, in each column that its inside meets
abbrev pub AllStand : List Defect → List (SmallVec ℕ) → ℕ → Type 0
AllStand ds columns n = (position : ℕ) (d : Defect) → position < n → slice_get ds position ≡ Some d → StandsAcross columns d position
