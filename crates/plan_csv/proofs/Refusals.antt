-- Rows that are not refused.
use Rattle.std.proofs.Common.{◌≡◌, ◌≤◌, ℕ, suc, ◌+◌, ◌==◌, List, length, true, false, not, ◌||◌, refl, arith, Option, None, Some}
use Rattle.std.specs.Prelude.{nat_le, find}
use Rattle.std.specs.List.{list_any}
use Rattle.std.proofs.lemmas.Bool.Decides.{nat_tests}
use Rattle.glass_base.specs.Plates.{Width}
use Rattle.glass_base.specs.Problem.{Problem}
use Rattle.cut_model.specs.declared.family.Row.{Row}
use Rattle.cut_model.specs.declared.family.Along.{Along}
use Rattle.cut_model.specs.Lawful.{plate_rows}
use Rattle.cut_model.specs.Loss.{names_residual}
use Rattle.plan_csv.specs.PlanTexts.{lies, names_branch, plate_refusal, side_refusal, piece_refusal, filled_by, child_refusal, place_refusal, row_refusal}
use Rattle.glass_base.specs.declared.limits.TheConstants.{MOST_SIDE}

-- equal numbers pass the test
pub same : (a b : ℕ) → a ≡ b → (a == b) ≡ true
same a b e = grind (arith, nat_tests)

-- a number that is small enough passes the test
small : (a b : ℕ) → a ≤ b → nat_le a b ≡ true
small a b le = grind (arith, nat_tests)

-- a plate that is next behind these rows
pub record IsNextPlate (b : Problem) (before : List Row) (r : Row) : Type 0 where
  pub plate : r.plate ≡ length (plate_rows before)
  pub branch : names_branch r.kind ≡ true
  pub x : r.x ≡ 0
  pub y : r.y ≡ 0
  pub width : r.width ≡ Width b r.plate
  pub height : r.height ≡ b.params.height

-- such a plate is not refused
plate_passes : (b : Problem) (row : ℕ) (before : List Row) (r : Row) → IsNextPlate b before r → plate_refusal b row before r ≡ None
plate_passes b row before r h =
    rw (same _ _ h.plate, h.branch, same _ _ h.x, same _ _ h.y, same _ _ h.width, same _ _ h.height) refl

-- a row whose sides are those of the piece behind so much of its parent
abbrev pub IsBeside : ℕ → Row → Row → Along → Type 0
IsBeside filled e r Along.Plates = ⊥
IsBeside filled e r Along.X = (r.x ≡ e.x + filled) × (r.y ≡ e.y) × (r.height ≡ e.height) × (filled + r.width ≤ MOST_SIDE)
IsBeside filled e r Along.Y = (r.x ≡ e.x) × (r.y ≡ e.y + filled) × (r.width ≡ e.width) × (filled + r.height ≤ MOST_SIDE)

-- its sides are not refused
sides_pass : (row filled : ℕ) (e r : Row) (along : Along) → IsBeside filled e r along → side_refusal row filled e r along ≡ None
sides_pass row filled e r Along.Plates h = absurd h
sides_pass row filled e r Along.X h = rw (same _ _ h.0, same _ _ h.1, same _ _ h.2, small _ _ h.3) refl
sides_pass row filled e r Along.Y h = rw (same _ _ h.0, same _ _ h.1, same _ _ h.2, small _ _ h.3) refl

-- a piece of this parent that is next behind so much of it
pub record IsNextPiece (filled : ℕ) (e r : Row) : Type 0 where
  pub plate : r.plate ≡ e.plate
  pub cut : r.cut ≡ e.cut + 1
  pub parent : r.parent ≡ Some e.node
  pub cut_up : names_branch e.kind ≡ true
  pub residual : (not (names_residual r.kind) || (r.cut == 1)) ≡ true
  pub branch : (not (names_branch r.kind) || not (r.cut == 4)) ≡ true
  pub beside : IsBeside filled e r (lies r.cut)

-- such a piece is not refused
piece_passes : (row filled : ℕ) (e r : Row) → IsNextPiece filled e r → piece_refusal row filled e r ≡ None
piece_passes row filled e r h =
    rw (same _ _ h.plate, same _ _ h.cut, h.cut_up, h.residual, h.branch, sides_pass row filled e r (lies r.cut) h.beside) refl

-- a plate in its place is not refused
pub plate_row_passes : (b : Problem) (row : ℕ) (before : List Row) (r : Row) →
    list_any (λ e. e.node == r.node) before ≡ false → r.cut ≡ 0 → r.parent ≡ None → IsNextPlate b before r → row_refusal b row before r ≡ None
plate_row_passes b row before r new cut parent h =
    rw (new) (rw (cut) (rw (parent) (plate_passes b row before r h)))

-- the place of a piece is not refused
place_passes : (b : Problem) (row : ℕ) (before : List Row) (e r : Row) (level : ℕ) (parent : Option ℕ) →
    level ≡ suc e.cut → parent ≡ Some e.node → child_refusal row before r (find (λ x. x.node == e.node) before) ≡ None →
    place_refusal b row before r level parent ≡ None
place_passes b row before e r level parent cut named h = rw (cut, named) h

-- a piece in its place is not refused
pub piece_row_passes : (b : Problem) (row : ℕ) (before : List Row) (e r : Row) →
    list_any (λ e. e.node == r.node) before ≡ false → find (λ x. x.node == e.node) before ≡ Some e →
    IsNextPiece (filled_by r.cut before e.node) e r → row_refusal b row before r ≡ None
piece_row_passes b row before e r new found h =
    let cut : r.cut ≡ suc e.cut = omega (arith, h.cut) in
    let passes : child_refusal row before r (find (λ x. x.node == e.node) before) ≡ None = rw found (piece_passes row (filled_by r.cut before e.node) e r h) in
    rw new (place_passes b row before e r r.cut r.parent cut h.parent passes)
