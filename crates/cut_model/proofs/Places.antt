-- What holds of each family of a list in its place.
use Rattle.std.proofs.Common.{◌≡◌, ◌≢◌, ℕ, zero, suc, ◌+◌, ◌≤◌, List, [], ◌∷◌, ◌++◌, take, drop, Bool, true, false, cond, refl, sym, ap, subst, ◌∙◌, append-nil, append_assoc, arith, Option, Some, All}
use Rattle.std.specs.Prelude.{slice_get}
use Rattle.std.proofs.lemmas.Bool.{false≢true}
use Rattle.std.proofs.lemmas.Bool.Decides.{nat_tests}
use Rattle.std.proofs.lemmas.List.{map-append}
use Rattle.std.proofs.lemmas.List.Elements.{All-nil, All-cons, All-head, All-tail, filter-append}
use Rattle.cut_model.specs.declared.family.Area.{Area}
use Rattle.cut_model.specs.declared.family.Row.{Row}
use Rattle.cut_model.specs.declared.family.Family.{Family}
use Rattle.cut_model.specs.Neighbourhood.{NoneNames}
use Rattle.cut_model.specs.Parents.{is_number, rows_in}
use Rattle.glass_base.specs.Problem.{Problem}
use Rattle.cut_model.specs.Families.{behind, families, first_plate}
use Rattle.cut_model.specs.Tree.{Forest, count}
use Rattle.cut_model.proofs.Parents.{rows, none_past, parent_behind}

-- what holds of each family and of the rows before its own, where these rows stand before the list
abbrev pub EachBefore : (List Row → Family → Type 0) → List Row → List Family → Type 0
EachBefore P told [] = Unit {0}
EachBefore P told (f ∷ fs) = P told f × EachBefore P (told ++ f.row ∷ []) fs

pub before-append : (P : List Row → Family → Type 0) (told : List Row) (xs ys : List Family) → EachBefore P told xs → EachBefore P (told ++ rows xs) ys → EachBefore P told (xs ++ ys)
before-append P told [] ys h k = subst (λ (l : List Row). EachBefore P l ys) (append-nil told) k
before-append P told (x ∷ xs) ys h k =
    (h.0, before-append P (told ++ x.row ∷ []) xs ys h.1 (subst (λ (l : List Row). EachBefore P l ys) (sym (append_assoc told (x.row ∷ []) (rows xs))) k))

-- so it holds at each place
pub at_place : (P : List Row → Family → Type 0) (told : List Row) (fs : List Family) (place : ℕ) (f : Family) → EachBefore P told fs → slice_get fs place ≡ Some f → P (told ++ take place (rows fs)) f
at_place P told [] place f h is = cc
at_place P told (x ∷ xs) zero f h is =
    let same : x ≡ f = cc in
    subst (λ (l : List Row). P l f) (sym (append-nil told)) (subst (P told) same h.0)
at_place P told (x ∷ xs) (suc place) f h is =
    subst (λ (l : List Row). P l f) (append_assoc told (x.row ∷ []) (take place (rows xs))) (at_place P (told ++ x.row ∷ []) xs place f h.1 is)

-- what holds of each family and of the rows behind its own, where these rows stand behind the list
abbrev pub EachAfter : (List Row → Family → Type 0) → List Row → List Family → Type 0
EachAfter P rest [] = Unit {0}
EachAfter P rest (f ∷ fs) = P (rows fs ++ rest) f × EachAfter P rest fs

pub after-append : (P : List Row → Family → Type 0) (rest : List Row) (xs ys : List Family) → EachAfter P (rows ys ++ rest) xs → EachAfter P rest ys → EachAfter P rest (xs ++ ys)
after-append P rest [] ys h k = k
after-append P rest (x ∷ xs) ys h k = (
  subst (λ (l : List Row). P l x) (sym (append_assoc (rows xs) (rows ys) rest) ∙ ap (λ (l : List Row). l ++ rest) (sym (map-append (λ (f : Family). f.row) xs ys))) h.0,
  after-append P rest xs ys h.1 k,
)

pub at_place_after : (P : List Row → Family → Type 0) (rest : List Row) (fs : List Family) (place : ℕ) (f : Family) → EachAfter P rest fs → slice_get fs place ≡ Some f → P (drop (place + 1) (rows fs) ++ rest) f
at_place_after P rest [] place f h is = cc
at_place_after P rest (x ∷ xs) zero f h is =
    let same : x ≡ f = cc in
    subst (P (rows xs ++ rest)) same h.0
at_place_after P rest (x ∷ xs) (suc place) f h is =
    let next : suc place + 1 ≡ suc (place + 1) = omega arith in
    rw next (at_place_after P rest xs place f h.1 is)

pub own_number : (n : ℕ) → is_number n (Some n) ≡ true
own_number n = grind (arith, nat_tests)

-- a number that no row names as its parent
pub unnamed : (n : ℕ) (told : List Row) → rows_in n told ≡ [] → NoneNames (Some n) told
unnamed n [] e = All-nil (λ r. r.parent ≢ Some n)
unnamed n (r ∷ told) e = by (is_number n r.parent) refl (unnamed n told) e
  where
    by : (b : Bool) → is_number n r.parent ≡ b → (rows_in n told ≡ [] → NoneNames (Some n) told) → cond b (r ∷ rows_in n told) (rows_in n told) ≡ [] → NoneNames (Some n) (r ∷ told)
    by true is later e = cc
    by false isnt later e = All-cons (λ (s : Row). s.parent ≢ Some n) r told (λ is. false≢true (sym isnt ∙ ap (is_number n) is ∙ own_number n)) (later e)

-- what holds of each row holds of one between others
pub between : (P : Row → Type 0) (told later : List Row) (r : Row) → All P ((told ++ r ∷ []) ++ later) → P r
between P [] later r h = All-head P r later h
between P (s ∷ told) later r h = between P told later r (All-tail P s ((told ++ r ∷ []) ++ later) h)

-- the rows so far name no number from this one on
abbrev pub NamesBelow : ℕ → List Row → Type 0
NamesBelow node told = (n : ℕ) → node ≤ n → rows_in n told ≡ []

-- a list's parent is below its first number
abbrev pub IsBelow : ℕ → Option ℕ → Type 0
IsBelow node parent = (n : ℕ) → node ≤ n → is_number n parent ≡ false

rows_in-push : (n : ℕ) (told : List Row) (r : Row) → is_number n r.parent ≡ false → rows_in n (told ++ r ∷ []) ≡ rows_in n told
rows_in-push n told r isnt =
    filter-append (λ s. is_number n s.parent) told (r ∷ []) ∙ ap (λ (l : List Row). rows_in n told ++ l) (rw isnt refl) ∙ append-nil (rows_in n told)

-- behind one more row
pub below_next : (node : ℕ) (told : List Row) (r : Row) → NamesBelow node told → IsBelow node r.parent → NamesBelow node (told ++ r ∷ [])
below_next node told r h parent n le = rows_in-push n told r (parent n le) ∙ h n le

-- so from the next number on
pub below_after : (node : ℕ) (told : List Row) → NamesBelow node told → NamesBelow (node + 1) told
below_after node told h n le = h n (omega arith)

-- the pieces inside a piece
pub below_inside : (node : ℕ) → IsBelow (node + 1) (Some node)
below_inside node n le = grind (arith, nat_tests)

-- behind the pieces inside a piece
pub below_later : (node : ℕ) (told : List Row) (at : Area) (forest : Forest) → NamesBelow node told → at.parent ≡ Some node →
    NamesBelow (node + 1 + count forest) (told ++ rows (families at true (node + 1) forest))
below_later node told at forest h parent n le =
    filter-append (λ s. is_number n s.parent) told (rows (families at true (node + 1) forest))
    ∙ ap (λ (l : List Row). l ++ rows_in n (rows (families at true (node + 1) forest))) (h n (omega arith))
    ∙ none_past n at true (node + 1) forest (ap (is_number n) parent ∙ below_inside node n (omega arith)) le

-- the list behind a piece has the same parent
pub below_behind : (node more : ℕ) (at : Area) (size : ℕ) → IsBelow node at.parent → IsBelow (node + 1 + more) (behind at size).parent
below_behind node more at size h n le = ap (is_number n) (parent_behind at at.along size) ∙ h n (omega arith)

-- the place of a plate
abbrev pub plate_at : Problem → ℕ → Area
plate_at b plate = record (first_plate b) { plate = plate }
