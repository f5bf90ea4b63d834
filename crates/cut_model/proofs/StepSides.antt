-- The sides of a step are those of the strip, the band and the cell in which its item's row lies.
use Rattle.std.proofs.Common.{◌≡◌, inl, inr, ℕ, zero, suc, ◌+◌, ◌<◌, ◌≤◌, ◌⊎◌, List, [], ◌∷◌, refl, sym, ap, subst, ◌∙◌, arith, Some}
use Rattle.std.specs.Prelude.{Contains}
use Rattle.cut_model.specs.declared.family.Along.{Along}
use Rattle.cut_model.specs.declared.family.Area.{Area}
use Rattle.cut_model.specs.declared.family.Family.{Family}
use Rattle.cut_model.specs.declared.family.Row.{Row}
use Rattle.cut_model.specs.declared.family.Sort.{Sort}
use Rattle.cut_model.specs.Families.{behind, height_at, inside, moved, row_at, turned, width_at}
use Rattle.cut_model.specs.ItemSteps.{IsPieceOf, itself, deeper}
use Rattle.cut_model.specs.Traces.{Sides, enter, first_place}
use Rattle.cut_model.proofs.StepKinds.{Around}

-- the sides tell of the strip, the band and the cell in which a row lies, and of its width
pub record AreSidesOf (all : List Row) (r : Sides) (row : Row) : Type 0 where
  pub strip : (piece : Row) × IsPieceOf all 1 row piece × (r.a ≡ piece.x) × (r.b ≡ piece.x + piece.width)
  pub band : (piece : Row) × IsPieceOf all 2 row piece × (r.c ≡ piece.y) × (r.d ≡ piece.y + piece.height)
  pub cell : (piece : Row) × IsPieceOf all 3 row piece × (r.e ≡ piece.x)
  pub width : r.width ≡ row.width

-- the sides in which a list lies are those of the piece that it is cut from
abbrev pub LieWithin : List Row → Sides → List Row → Type 0
LieWithin all r [] = Unit {0}
LieWithin all r (o ∷ _) = AreSidesOf all r o

-- where the next piece of a list of this level lies within these sides
abbrev pub IsPlaced : ℕ → Area → Sides → ℕ → Type 0
IsPlaced zero at r from = (at.along ≡ Along.Plates) × (at.x ≡ 0) × (at.y ≡ r.c) × (r.d ≡ at.y + at.height)
IsPlaced (suc zero) at r from = (at.along ≡ Along.X) × (at.x ≡ from) × (at.y ≡ r.c) × (r.d ≡ at.y + at.height)
IsPlaced (suc (suc zero)) at r from = (at.along ≡ Along.Y) × (at.y ≡ from) × (at.x ≡ r.e) × (at.width ≡ r.width)
IsPlaced (suc (suc (suc zero))) at r from = (at.along ≡ Along.X) × (at.x ≡ from)
IsPlaced (suc (suc (suc (suc _)))) at r from = (at.along ≡ Along.Y) × (at.width ≡ r.width)

-- the sides of a row, as pieces lie
wide : (at : Area) (along : Along) (node size : ℕ) (sort : Sort) → at.along ≡ along → (row_at at node size sort).width ≡ width_at along size at.width
wide at along node size sort e = ap (λ (a : Along). width_at a size at.width) e

tall : (at : Area) (along : Along) (node size : ℕ) (sort : Sort) → at.along ≡ along → (row_at at node size sort).height ≡ height_at along size at.height
tall at along node size sort e = ap (λ (a : Along). height_at a size at.height) e

-- a piece of an outer level, or of its own
inherit : (all : List Row) (level : ℕ) (row o piece : Row) → Contains all o → row.parent ≡ Some o.node → level ≤ o.cut → IsPieceOf all level o piece → IsPieceOf all level row piece
inherit all level row o piece known named le h = record { around = deeper row o piece known named h.around; made = by h.made }
  where
    by : (piece.cut ≡ level) ⊎ ((piece ≡ o) × (o.cut < level)) → (piece.cut ≡ level) ⊎ ((piece ≡ row) × (row.cut < level))
    by (inl is) = inl is
    by (inr above) = absurd (omega (arith, le, above.1))

own : (all : List Row) (level : ℕ) (row : Row) → row.cut ≤ level → IsPieceOf all level row row
own all level row le = record { around = itself row; made = by (cases row.cut level le) }
  where
    cases : (n m : ℕ) → n ≤ m → (n ≡ m) ⊎ (n < m)
    cases n m le = grind arith

    by : (row.cut ≡ level) ⊎ (row.cut < level) → (row.cut ≡ level) ⊎ ((row ≡ row) × (row.cut < level))
    by (inl is) = inl is
    by (inr lt) = inr (refl, lt)

-- the sides of a piece of the list tell of its row
pub sides_entered : (all outer : List Row) (level : ℕ) (at : Area) (node size : ℕ) (sort : Sort) (r : Sides) (from : ℕ) → level ≤ 4 → at.cut ≡ level →
    IsPlaced level at r from → Around all level at.parent outer → LieWithin all r outer → AreSidesOf all (enter level r from size) (row_at at node size sort)
sides_entered all outer zero at node size sort r from le cut place around h =
    let row : Row = row_at at node size sort in
    let w : row.width ≡ size = wide at Along.Plates node size sort place.0 in
    let t : row.height ≡ at.height = tall at Along.Plates node size sort place.0 in
    record {
      strip = (row, own all 1 row (omega (arith, cut)), sym place.1, omega (arith, place.1, w));
      band = (row, own all 2 row (omega (arith, cut)), sym place.2, omega (arith, place.3, t));
      cell = (row, own all 3 row (omega (arith, cut)), sym place.1);
      width = sym w;
    }
sides_entered all [] (suc level) at node size sort r from le cut place around h = absurd around
sides_entered all (o ∷ outer) (suc zero) at node size sort r from le cut place around h =
    let row : Row = row_at at node size sort in
    let w : row.width ≡ size = wide at Along.X node size sort place.0 in
    let t : row.height ≡ at.height = tall at Along.X node size sort place.0 in
    record {
      strip = (row, own all 1 row (omega (arith, cut)), sym place.1, omega (arith, place.1, w));
      band = (row, own all 2 row (omega (arith, cut)), sym place.2, omega (arith, place.3, t));
      cell = (row, own all 3 row (omega (arith, cut)), sym place.1);
      width = sym w;
    }
sides_entered all (o ∷ outer) (suc (suc zero)) at node size sort r from le cut place around h =
    let row : Row = row_at at node size sort in
    let w : row.width ≡ at.width = wide at Along.Y node size sort place.0 in
    let t : row.height ≡ size = tall at Along.Y node size sort place.0 in
    record {
      strip = (h.strip.0, inherit all 1 row o h.strip.0 around.0 around.1 (omega (arith, around.2)) h.strip.1, h.strip.2, h.strip.3);
      band = (row, own all 2 row (omega (arith, cut)), sym place.1, omega (arith, place.1, t));
      cell = (row, own all 3 row (omega (arith, cut)), sym place.2);
      width = sym place.3 ∙ sym w;
    }
sides_entered all (o ∷ outer) (suc (suc (suc zero))) at node size sort r from le cut place around h =
    let row : Row = row_at at node size sort in
    record {
      strip = (h.strip.0, inherit all 1 row o h.strip.0 around.0 around.1 (omega (arith, around.2)) h.strip.1, h.strip.2, h.strip.3);
      band = (h.band.0, inherit all 2 row o h.band.0 around.0 around.1 (omega (arith, around.2)) h.band.1, h.band.2, h.band.3);
      cell = (row, own all 3 row (omega (arith, cut)), sym place.1);
      width = sym (wide at Along.X node size sort place.0);
    }
sides_entered all (o ∷ outer) (suc (suc (suc (suc zero)))) at node size sort r from le cut place around h =
    let row : Row = row_at at node size sort in
    record {
      strip = (h.strip.0, inherit all 1 row o h.strip.0 around.0 around.1 (omega (arith, around.2)) h.strip.1, h.strip.2, h.strip.3);
      band = (h.band.0, inherit all 2 row o h.band.0 around.0 around.1 (omega (arith, around.2)) h.band.1, h.band.2, h.band.3);
      cell = (h.cell.0, inherit all 3 row o h.cell.0 around.0 around.1 (omega (arith, around.2)) h.cell.1, h.cell.2);
      width = sym place.1 ∙ sym (wide at Along.Y node size sort place.0);
    }
sides_entered all (o ∷ outer) (suc (suc (suc (suc (suc level))))) at node size sort r from le cut place around h = absurd (omega (arith, le))

-- the pieces inside a piece of the list
pub placed_inside : (level : ℕ) (at : Area) (f : Family) (node size : ℕ) (sort : Sort) (r : Sides) (from : ℕ) → level ≤ 3 → f.along ≡ at.along → f.row ≡ row_at at node size sort → IsPlaced level at r from →
    let sides : Sides = enter level r from size in IsPlaced (suc level) (inside f) sides (first_place (suc level) sides)
placed_inside zero at f node size sort r from le along row place = (
  ap turned (along ∙ place.0),
  ap (λ (w : Row). w.x) row ∙ place.1,
  ap (λ (w : Row). w.y) row ∙ place.2,
  omega (arith, ap (λ (w : Row). w.y) row, ap (λ (w : Row). w.height) row, tall at Along.Plates node size sort place.0, place.3),
)
placed_inside (suc zero) at f node size sort r from le along row place = (
  ap turned (along ∙ place.0),
  ap (λ (w : Row). w.y) row ∙ place.2,
  ap (λ (w : Row). w.x) row ∙ place.1,
  ap (λ (w : Row). w.width) row ∙ wide at Along.X node size sort place.0,
)
placed_inside (suc (suc zero)) at f node size sort r from le along row place = (
  ap turned (along ∙ place.0),
  ap (λ (w : Row). w.x) row ∙ place.2,
)
placed_inside (suc (suc (suc zero))) at f node size sort r from le along row place = (
  ap turned (along ∙ place.0),
  ap (λ (w : Row). w.width) row ∙ wide at Along.X node size sort place.0,
)
placed_inside (suc (suc (suc (suc level)))) at f node size sort r from le along row place = absurd (omega (arith, le))

-- the next piece of the list
abbrev Moved : ℕ → Area → ℕ → Sides → ℕ → Along → Type 0
Moved level at size r from along = IsPlaced level (moved along at size) r (from + size)

pub placed_behind : (level : ℕ) (at : Area) (size : ℕ) (r : Sides) (from : ℕ) → IsPlaced level at r from → IsPlaced level (behind at size) r (from + size)
placed_behind zero at size r from place =
    subst (Moved 0 at size r from) (sym place.0) (place.0, place.1, place.2, place.3)
placed_behind (suc zero) at size r from place =
    subst (Moved 1 at size r from) (sym place.0) (place.0, ap (λ (n : ℕ). n + size) place.1, place.2, place.3)
placed_behind (suc (suc zero)) at size r from place =
    subst (Moved 2 at size r from) (sym place.0) (place.0, ap (λ (n : ℕ). n + size) place.1, place.2, place.3)
placed_behind (suc (suc (suc zero))) at size r from place =
    subst (Moved 3 at size r from) (sym place.0) (place.0, ap (λ (n : ℕ). n + size) place.1)
placed_behind (suc (suc (suc (suc level)))) at size r from place =
    subst (Moved (suc (suc (suc (suc level)))) at size r from) (sym place.0) (place.0, place.1)
