-- The rows of the pieces from a place on, piece by piece.
use Rattle.std.proofs.Common.{◌≡◌, ◌≤◌, ℕ, ◌+◌, ◌==◌, List, [], ◌∷◌, ◌++◌, map, Bool, true, false, refl, ap, arith}
use Rattle.std.proofs.lemmas.Bool.Decides.{nat_tests}
use Rattle.std.specs.List.{AllByRecursion, list_any}
use Rattle.std.proofs.lemmas.List.{map-append}
use Rattle.std.proofs.lemmas.List.Folds.{list_any-append}
use Rattle.cut_model.specs.declared.family.Row.{Row}
use Rattle.cut_model.specs.declared.family.Sort.{Sort}
use Rattle.cut_model.specs.declared.family.Along.{Along}
use Rattle.cut_model.specs.declared.family.Area.{Area}
use Rattle.cut_model.specs.declared.family.Family.{Family}
use Rattle.cut_model.specs.Tree.{Forest, nothing, piece, is_nothing, children_in, count}
use Rattle.cut_model.specs.Families.{families, family_with, inside, behind, moved, row_at}

-- the rows of the pieces from a place on
abbrev pub rows_at : Area → Bool → ℕ → Forest → List Row
rows_at at first node forest = map (λ f. f.row) (families at first node forest)

-- the place of the first piece inside a piece
abbrev pub place_in : Area → Bool → ℕ → ℕ → Sort → Forest → Forest → Area
place_in at first node size sort inner later = inside (family_with at first (is_nothing later) node size sort (children_in inner))

-- the rows inside a piece
abbrev pub rows_below : Area → Bool → ℕ → ℕ → Sort → Forest → Forest → List Row
rows_below at first node size sort inner later = rows_at (place_in at first node size sort inner later) true (node + 1) inner

-- the rows behind a piece
abbrev pub rows_past : Area → ℕ → ℕ → Forest → Forest → List Row
rows_past at node size inner later = rows_at (behind at size) false (node + 1 + count inner) later

-- no piece has no rows
pub rows_nothing : (at : Area) (first : Bool) (node : ℕ) → rows_at at first node nothing ≡ []
unfolding families
rows_nothing at first node = refl

-- a piece has its row, then those inside it and those behind it
pub rows_piece : (at : Area) (first : Bool) (node size : ℕ) (sort : Sort) (inner later : Forest) →
    rows_at at first node (piece size sort inner later)
    ≡ row_at at node size sort ∷ (rows_below at first node size sort inner later ++ rows_past at node size inner later)
unfolding families
rows_piece at first node size sort inner later =
    ap (λ (rows : List Row). row_at at node size sort ∷ rows)
    (map-append (λ (f : Family). f.row)
    (families (place_in at first node size sort inner later) true (node + 1) inner)
    (families (behind at size) false (node + 1 + count inner) later))

-- what holds of all rows holds of the row of the first piece, of those inside it and of those behind it
pub record HoldOf (P : Row → Type 0) (at : Area) (first : Bool) (node size : ℕ) (sort : Sort) (inner later : Forest) : Type 0 where
  pub here : P (row_at at node size sort)
  pub below : AllByRecursion P (rows_below at first node size sort inner later)
  pub past : AllByRecursion P (rows_past at node size inner later)

-- what holds of the elements of two lists holds of the one behind the other
pub all_of_both : {X : Type 0} (P : X → Type 0) (xs ys : List X) → AllByRecursion P xs → AllByRecursion P ys → AllByRecursion P (xs ++ ys)
all_of_both P [] ys h k = k
all_of_both P (x ∷ xs) ys h k = (h.0, all_of_both P xs ys h.1 k)

-- what holds of the elements of two lists, one behind the other, holds of those of each
pub all_of_each : {X : Type 0} (P : X → Type 0) (xs ys : List X) → AllByRecursion P (xs ++ ys) → AllByRecursion P xs × AllByRecursion P ys
all_of_each P [] ys h = (tt, h)
all_of_each P (x ∷ xs) ys h =
    let rest = all_of_each P xs ys h.1 in
    ((h.0, rest.0), rest.1)

-- a fact on the rows of pieces, put together from its parts
pub hold_all : (P : Row → Type 0) (at : Area) (first : Bool) (node size : ℕ) (sort : Sort) (inner later : Forest) →
    HoldOf P at first node size sort inner later → AllByRecursion P (rows_at at first node (piece size sort inner later))
hold_all P at first node size sort inner later h =
    rw (rows_piece at first node size sort inner later)
    (h.here, all_of_both P (rows_below at first node size sort inner later) (rows_past at node size inner later) h.below h.past)

-- a fact on the rows of pieces, in its parts
pub all_hold : (P : Row → Type 0) (at : Area) (first : Bool) (node size : ℕ) (sort : Sort) (inner later : Forest) →
    AllByRecursion P (rows_at at first node (piece size sort inner later)) → HoldOf P at first node size sort inner later
all_hold P at first node size sort inner later h =
    let h' = rw (rows_piece at first node size sort inner later) at h in
    let rest = all_of_each P (rows_below at first node size sort inner later) (rows_past at node size inner later) h'.1 in
    record { here = h'.0; below = rest.0; past = rest.1 }

-- the place behind a piece, but for where along its neighbours it lies
pub record IsNextTo (at next : Area) : Type 0 where
  pub cut : next.cut ≡ at.cut
  pub along : next.along ≡ at.along
  pub parent : next.parent ≡ at.parent
  pub width : next.width ≡ at.width
  pub height : next.height ≡ at.height

-- a place is moved along its neighbours alone
pub moved_next : (at : Area) (along : Along) (size : ℕ) → IsNextTo at (moved along at size)
moved_next at Along.Plates size = record { cut = refl; along = refl; parent = refl; width = refl; height = refl }
moved_next at Along.X size = record { cut = refl; along = refl; parent = refl; width = refl; height = refl }
moved_next at Along.Y size = record { cut = refl; along = refl; parent = refl; width = refl; height = refl }

-- so is the place behind a piece
pub behind_next : (at : Area) (size : ℕ) → IsNextTo at (behind at size)
behind_next at size = moved_next at at.along size

-- a number past those of the pieces is that of no row
pub fresh_past : (n : ℕ) (at : Area) (first : Bool) (node : ℕ) (forest : Forest) → node + count forest ≤ n → list_any (λ e. e.node == n) (rows_at at first node forest) ≡ false
fresh_past n at first node nothing h = rw (rows_nothing at first node) refl
fresh_past n at first node (piece size sort inner later) h =
    let below : List Row = rows_below at first node size sort inner later in
    let after : List Row = rows_past at node size inner later in
    let here : (node == n) ≡ false = grind (arith, nat_tests) in
    rw (
      rows_piece at first node size sort inner later,
      here,
      list_any-append (λ (e : Row). e.node == n) below after,
      fresh_past n (place_in at first node size sort inner later) true (node + 1) inner (omega arith),
      fresh_past n (behind at size) false (node + 1 + count inner) later (omega arith),
    ) refl
