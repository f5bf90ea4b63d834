-- Places around defects.
use Rattle.std.specs.Prelude.{◌≡◌, ℕ, ◌+◌, ◌<◌, ◌≤◌, ◌⊎◌, List, Contains}
use Rattle.glass_base.specs.declared.item.Defect.{Defect}
use Rattle.glass_base.specs.Plates.{Before, Width}
use Rattle.glass_base.specs.Problem.{Problem}
use Rattle.front_table.specs.declared.labels.FrontLabel.{FrontLabel}
use Rattle.front_bound.specs.declared.places.PieceToPlace.{PieceToPlace}
use Rattle.front_bound.specs.declared.places.Corner.{Corner}
use Rattle.front_table.specs.Pools.{HeldAt}
use Rattle.front_table.specs.declared.sets.SizeSet.{SizeSet}
use Rattle.front_table.specs.Sets.{Has, HeldTo}

-- these are defects of the plate
unfoldable pub AreHoles : Problem → ℕ → List Defect → Type 0
AreHoles b plate holes = (d : Defect) → Contains holes d → Contains b.defects d × (plate ≡ d.plate) × (d.y0 < d.y1)

-- a rectangle does not meet the inside of a defect
abbrev pub Avoids : Defect → ℕ → ℕ → ℕ → ℕ → Type 0
Avoids d x0 y0 x1 y1 = (x1 ≤ d.x0) ⊎ (d.x1 ≤ x0) ⊎ (y1 ≤ d.y0) ⊎ (d.y1 ≤ y0)

unfoldable pub Clear : List Defect → ℕ → ℕ → ℕ → ℕ → Type 0
Clear holes x0 y0 x1 y1 = (d : Defect) → Contains holes d → Avoids d x0 y0 x1 y1

-- the line at `x` runs through no defect, up to a height
unfoldable pub LineClear : List Defect → ℕ → ℕ → Type 0
LineClear holes height x = (d : Defect) → Contains holes d → d.y0 < height → 0 < d.y1 → (x ≤ d.x0) ⊎ (d.x1 ≤ x)

-- a defect's inside meets that of a piece at a place
pub record Meets (d : Defect) (p : PieceToPlace) (at : Corner) : Type 0 where
  pub left : d.x0 < at.x + p.wide
  pub right : at.x < d.x1
  pub low : d.y0 < at.y + p.high
  pub top : at.y < d.y1

-- the piece can lie there
pub record IsFree (holes : List Defect) (p : PieceToPlace) (left low : ℕ) : Type 0 where
  pub room : left + p.wide ≤ p.room
  pub height : low + p.high ≤ p.height
  pub clear : Clear holes left low (left + p.wide) (low + p.high)

-- one of the places is no further right and no higher
unfoldable pub Covered : List Corner → ℕ → ℕ → Type 0
Covered places left low = (p : Corner) × Contains places p × (p.x ≤ left) × (p.y ≤ low)

-- right sides of strips that begin at one of these places, whose widths and right sides labels stand for, are held
unfoldable pub EndsPlaced : Problem → List Defect → ℕ → ℕ → List (List FrontLabel) → ℕ → ℕ → SizeSet → List FrontLabel → Type 0
EndsPlaced b holes far most sides m plate begin strips =
    (left width : ℕ) → Has begin left → HeldTo strips b.params.height width (left + width) 0 → left + width ≤ Width b plate → (left + width < Width b plate → LineClear holes b.params.height (left + width)) → Before b plate + (left + width) + far ≤ most
    → HeldAt sides m (left + width) plate
