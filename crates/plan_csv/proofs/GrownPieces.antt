-- Pieces that are made one by one of the rows of neighbours.
use Rattle.std.proofs.Common.{◌≡◌, ◌+◌, ◌<◌, ◌≤◌, ◌∙◌, ℕ, List, [], ◌∷◌, ◌++◌, drop, length, get_or, refl, sym, ap}
use Rattle.cut_model.specs.declared.family.Row.{Row}
use Rattle.cut_model.specs.declared.family.Sort.{Sort}
use Rattle.cut_model.specs.Tree.{Forest, nothing, piece, neighbours, sort_named}
use Rattle.cut_model.proofs.Neighbours.{next, none_left}
use Rattle.plan_csv.specs.inner.ReadNodes.{IsGrown, side_filled}

-- pieces with others behind them
abbrev pub onto : {A : Type 0} → (A → ℕ) → (A → Sort) → (A → Forest) → List A → Forest → Forest
onto size sort inner [] later = later
onto size sort inner (p ∷ ps) later = piece (size p) (sort p) (inner p) (onto size sort inner ps later)

-- the pieces of rows, by what is inside each
abbrev pub of_rows : (Row → Forest) → List Row → Forest
of_rows inside rows = neighbours side_filled (λ r. sort_named r.kind) inside rows

-- the pieces that were made, with those of the rows that are left, are the pieces of all rows
pub record Growing {A : Type 0} (size : A → ℕ) (sort : A → Sort) (inner : A → Forest) (inside : Row → Forest) (rows : List Row) (i : ℕ) (made : List A) : Type 0 where
  pub whole : onto size sort inner made (of_rows inside (drop i rows)) ≡ of_rows inside rows

-- one piece more before the others
onto-push : {A : Type 0} (size : A → ℕ) (sort : A → Sort) (inner : A → Forest) (made : List A) (p : A) (later : Forest)
    → onto size sort inner (made ++ p ∷ []) later ≡ onto size sort inner made (piece (size p) (sort p) (inner p) later)
onto-push size sort inner [] p later = refl
onto-push size sort inner (x ∷ made) p later = ap (λ f. piece (size x) (sort x) (inner x) f) (onto-push size sort inner made p later)

-- pieces with nothing behind them
onto-nothing : {A : Type 0} (size : A → ℕ) (sort : A → Sort) (inner : A → Forest) (made : List A) → onto size sort inner made nothing ≡ neighbours size sort inner made
onto-nothing size sort inner [] = refl
onto-nothing size sort inner (x ∷ made) = ap (λ f. piece (size x) (sort x) (inner x) f) (onto-nothing size sort inner made)

-- the piece of the next row was made
pub growing-more : {A : Type 0} {size : A → ℕ} {sort : A → Sort} {inner : A → Forest} {inside : Row → Forest} {rows : List Row} {i : ℕ} {made : List A} (p : A) (d : Row) (more : List A)
    → Growing size sort inner inside rows i made → i < length rows → IsGrown inside (get_or rows i d) (size p) (sort p) (inner p) → more ≡ made ++ p ∷ [] → Growing size sort inner inside rows (i + 1) more
growing-more {size = size} {sort = sort} {inner = inner} {inside = inside} {rows = rows} {i = i} {made = made} p d more g h is e =
    let left : of_rows inside (drop i rows) ≡ piece (side_filled (get_or rows i d)) (sort_named (get_or rows i d).kind) (inside (get_or rows i d)) (of_rows inside (drop (i + 1) rows)) =
    next side_filled (λ r. sort_named r.kind) inside rows i (get_or rows i d) d h refl in
    let same : piece (size p) (sort p) (inner p) (of_rows inside (drop (i + 1) rows)) ≡ of_rows inside (drop i rows) =
    rw (is.size_is, is.sort_is, is.inner_is) (sym left) in
    record { whole = rw e (onto-push size sort inner made p (of_rows inside (drop (i + 1) rows)) ∙ ap (onto size sort inner made) same ∙ g.whole) }

-- all pieces were made
pub growing-end : {A : Type 0} {size : A → ℕ} {sort : A → Sort} {inner : A → Forest} {inside : Row → Forest} {rows : List Row} {i : ℕ} {made : List A}
    → Growing size sort inner inside rows i made → length rows ≤ i → neighbours size sort inner made ≡ of_rows inside rows
growing-end {size = size} {sort = sort} {inner = inner} {inside = inside} {rows = rows} {i = i} {made = made} g h =
    sym (onto-nothing size sort inner made) ∙ ap (onto size sort inner made) (sym (none_left side_filled (λ r. sort_named r.kind) inside rows i h)) ∙ g.whole
