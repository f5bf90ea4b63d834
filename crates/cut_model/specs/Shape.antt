-- The shape of a plan: plates, and pieces that at most four levels of cuts make of them.
use Rattle.std.specs.Prelude.{◌≡◌, ℕ, ◌+◌, ◌≤◌}
use Rattle.cut_model.specs.declared.family.Sort.{Sort}
use Rattle.cut_model.specs.Tree.{Forest, nothing, piece, neighbour_count}

-- a piece that is not cut: some cut made it, and it has no pieces inside
pub record IsWhole (level : ℕ) (inner : Forest) : Type 0 where
  pub below : 1 ≤ level
  pub shallow : level ≤ 4
  pub empty : inner ≡ nothing

-- the residual: a strip that is not cut
pub record IsLeft (level : ℕ) (inner : Forest) : Type 0 where
  pub strip : level ≡ 1
  pub empty : inner ≡ nothing

-- a plate, strip, band or cell that is cut; a cell is cut into two leaves
pub record IsCutUp (level : ℕ) (inner : Forest) : Type 0 where
  pub shallow : level ≤ 3
  pub two : level ≡ 3 → neighbour_count inner ≡ 2

-- a piece that a cut of this level makes is of a sort that the level has; plates, of level 0, are cut
abbrev pub IsOfLevel : ℕ → Sort → Forest → Type 0
IsOfLevel level (Sort.Item _) inner = IsWhole level inner
IsOfLevel level Sort.Waste inner = IsWhole level inner
IsOfLevel level Sort.Branch inner = IsCutUp level inner
IsOfLevel level Sort.Residual inner = IsLeft level inner

-- neighbours that cuts of this level make, with the pieces inside them; plates have no size of their own
abbrev pub IsShaped : ℕ → Forest → Type 0
IsShaped level nothing = Unit {0}
IsShaped level (piece size sort inner later) =
    (level ≡ 0 → size ≡ 0) × IsOfLevel level sort inner × IsShaped (level + 1) inner × IsShaped level later

-- a plan has this shape
abbrev pub IsPlanShaped : Forest → Type 0
IsPlanShaped plan = IsShaped 0 plan
