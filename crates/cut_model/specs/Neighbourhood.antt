-- What a family says of its place, in words of rows: those before its own row, and those behind it.
use Rattle.std.specs.Prelude.{◌≡◌, ◌≢◌, ℕ, ◌+◌, ◌%◌, ◌≤◌, ◌↔◌, true, List, length, slice_get, All, Option, Some, MatchOption}
use Rattle.glass_base.specs.Plates.{Width}
use Rattle.glass_base.specs.Problem.{Problem}
use Rattle.cut_model.specs.declared.family.Row.{Row}
use Rattle.cut_model.specs.declared.family.Along.{Along}
use Rattle.cut_model.specs.declared.family.Family.{Family}
use Rattle.cut_model.specs.Lawful.{plate_rows}
use Rattle.cut_model.specs.Parents.{rows_in, sum_along}

-- no row names this parent
abbrev pub NoneNames : Option ℕ → List Row → Type 0
NoneNames parent rows = All (λ r. r.parent ≢ parent) rows

-- a piece is the first one where no row before it names its parent
abbrev pub KnowsIfFirst : List Row → Family → Type 0
KnowsIfFirst before f = (f.first ≡ true) ↔ NoneNames f.row.parent before

-- the row of a plate, which stands behind the rows of the plates before it
pub record IsPlate (b : Problem) (before : List Row) (row : Row) : Type 0 where
  pub number : row.plate ≡ length (plate_rows before)
  pub cut : row.cut ≡ 0
  pub x : row.x ≡ 0
  pub y : row.y ≡ 0
  pub width : row.width ≡ Width b row.plate
  pub height : row.height ≡ b.params.height

-- a piece that lies so begins where the pieces before it end, and has the other side of the piece that all are cut from
abbrev pub Follows : Along → Row → List Row → Row → Type 0
Follows Along.Plates whole before row = ⊥
Follows Along.X whole before row = (row.x ≡ whole.x + sum_along Along.X before) × (row.y ≡ whole.y) × (row.height ≡ whole.height)
Follows Along.Y whole before row = (row.y ≡ whole.y + sum_along Along.Y before) × (row.x ≡ whole.x) × (row.width ≡ whole.width)

-- a piece is cut from the one whose row stands at the place of this number, and follows those that are cut from it before
pub record IsCutFrom (before : List Row) (f : Family) (number : ℕ) : Type 0 where
  pub whole : Row
  pub stands : slice_get before number ≡ Some whole
  pub node : whole.node ≡ number
  pub plate : f.row.plate ≡ whole.plate
  pub cut : f.row.cut ≡ whole.cut + 1
  pub corner : Follows f.along whole (rows_in number before) f.row

-- a piece is a plate, or stands in the one that it is cut from
abbrev pub StandsInItsParent : Problem → List Row → Family → Type 0
StandsInItsParent b before f = MatchOption f.row.parent (IsPlate b before f.row) (IsCutFrom before f)

-- a piece of a 1-cut ends the plan where no row behind it names its parent, and it lies on the last of all plates
abbrev pub KnowsIfItEnds : ℕ → List Row → Family → Type 0
KnowsIfItEnds plates after f = f.row.cut ≡ 1 → (f.ends ≡ true) ↔ (NoneNames f.row.parent after × (f.row.plate + 1 ≡ plates))

-- plates stand apart, the pieces of odd cuts lie side by side, those of even cuts one over the other
pub record LiesByItsCut (f : Family) : Type 0 where
  pub plate : f.row.cut ≡ 0 → f.along ≡ Along.Plates
  pub odd : f.row.cut % 2 ≡ 1 → f.along ≡ Along.X
  pub even : 1 ≤ f.row.cut → f.row.cut % 2 ≡ 0 → f.along ≡ Along.Y
