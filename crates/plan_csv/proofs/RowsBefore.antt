-- What is known of the rows before those of a list of pieces.
use Rattle.std.proofs.Common.{◌≡◌, ◌≤◌, ◌<◌, ℕ, zero, suc, ◌+◌, ◌==◌, List, [], ◌∷◌, ◌++◌, Bool, true, false, not, ◌||◌, refl, sym, subst, ap, ◌∙◌, append_assoc, arith, Option, None, Some}
use Rattle.std.specs.Prelude.{find, if◌then◌else◌}
use Rattle.std.specs.List.{list_any}
use Rattle.std.proofs.lemmas.Bool.Decides.{nat_tests}
use Rattle.std.proofs.lemmas.List.Elements.{filter-append}
use Rattle.std.proofs.lemmas.List.Folds.{list_any-append, find-append}
use Rattle.cut_model.specs.declared.family.Row.{Row}
use Rattle.cut_model.specs.declared.family.Sort.{Sort}
use Rattle.cut_model.specs.declared.family.Along.{Along}
use Rattle.cut_model.specs.declared.family.Area.{Area}
use Rattle.cut_model.specs.Tree.{Forest, nothing, piece, count, type_number}
use Rattle.cut_model.specs.Families.{behind, moved, row_at, width_at, height_at, turned, side_along}
use Rattle.cut_model.specs.Loss.{names_residual}
use Rattle.cut_model.specs.Parents.{is_number, rows_in, sum_along}
use Rattle.cut_model.proofs.Parents.{none_in}
use Rattle.plan_csv.specs.PlanTexts.{lies, names_branch, filled_by}
use Rattle.cut_model.specs.Shape.{IsOfLevel}
use Rattle.plan_csv.proofs.Told.{rows_at, place_in, rows_below, rows_past, rows_nothing, rows_piece, behind_next, fresh_past}
use Rattle.plan_csv.proofs.Refusals.{IsBeside, IsNextPiece, same}
use Rattle.glass_base.specs.declared.limits.TheConstants.{MOST_SIDE}

-- the rows that name n as their parent, of two lists
pub rows_in-append : (n : ℕ) (xs ys : List Row) → rows_in n (xs ++ ys) ≡ rows_in n xs ++ rows_in n ys
rows_in-append n xs ys = filter-append (λ (r : Row). is_number n r.parent) xs ys

-- the sum of the sides of the rows of two lists
sum_along-append : (along : Along) (xs ys : List Row) → sum_along along (xs ++ ys) ≡ sum_along along xs + sum_along along ys
sum_along-append along [] ys = omega arith
sum_along-append along (x ∷ xs) ys = omega (arith, sum_along-append along xs ys)

-- the two truth values differ
true_not_false : true ≡ false → ⊥
true_not_false e = cc

-- a row that fails the test is passed over
passed_over : (b c : Bool) (r : Row) (o : Option Row) → (b || c) ≡ false → (c ≡ false → o ≡ None) → (if b then Some r else o) ≡ None
passed_over true c r o h k = absurd (true_not_false h)
passed_over false c r o h k = k h

-- where no row has this number, none is found
none_found : (n : ℕ) (rows : List Row) → list_any (λ e. e.node == n) rows ≡ false → find (λ e. e.node == n) rows ≡ None
none_found n [] h = refl
none_found n (r ∷ rows) h = passed_over (r.node == n) (list_any (λ e. e.node == n) rows) r (find (λ e. e.node == n) rows) h (none_found n rows)

-- no row of a list names a number past those of the list as its parent, unless the list is that number's own
pub none_past : (n : ℕ) (at : Area) (first : Bool) (node : ℕ) (forest : Forest) → is_number n at.parent ≡ false → node + count forest ≤ n → rows_in n (rows_at at first node forest) ≡ []
none_past n at first node nothing e h = rw (rows_nothing at first node) refl
none_past n at first node (piece size sort inner later) e h =
    let place : Area = place_in at first node size sort inner later in
    let below : List Row = rows_below at first node size sort inner later in
    let past : List Row = rows_past at node size inner later in
    let other : (node == n) ≡ false = grind (arith, nat_tests) in
    rw (
      rows_piece at first node size sort inner later,
      e,
      rows_in-append n below past,
      none_past n place true (node + 1) inner other (omega arith),
      none_past n (behind at size) false (node + 1 + count inner) later (ap (is_number n) (behind_next at size).parent ∙ e) (omega arith),
    ) refl

-- no row has a number from this one on, nor names one as its parent
pub record IsBefore (node : ℕ) (rows : List Row) : Type 0 where
  pub fresh : (n : ℕ) → node ≤ n → list_any (λ e. e.node == n) rows ≡ false
  pub unnamed : (n : ℕ) → node ≤ n → rows_in n rows ≡ []

-- no row is before the first one
pub before_none : IsBefore 0 []
before_none = record { fresh = λ n le. refl; unnamed = λ n le. refl }

-- the parent of a place has a number below this one
abbrev pub IsElder : ℕ → Area → Type 0
IsElder node at = (n : ℕ) → node ≤ n → is_number n at.parent ≡ false

-- one more row
pub before_row : (at : Area) (node size : ℕ) (sort : Sort) (rows : List Row) → IsElder node at → IsBefore node rows → IsBefore (node + 1) (rows ++ row_at at node size sort ∷ [])
before_row at node size sort rows elder h = record {
  fresh = λ n le.
      let other : (node == n) ≡ false = grind (arith, nat_tests) in
      rw (list_any-append (λ (e : Row). e.node == n) rows (row_at at node size sort ∷ []), h.fresh n (omega arith), other) refl;
  unnamed = λ n le. rw (rows_in-append n rows (row_at at node size sort ∷ []), h.unnamed n (omega arith), elder n (omega arith)) refl;
}

-- the rows of more pieces
pub before_pieces : (at : Area) (first : Bool) (node : ℕ) (forest : Forest) (rows : List Row) → IsElder node at → IsBefore node rows → IsBefore (node + count forest) (rows ++ rows_at at first node forest)
before_pieces at first node forest rows elder h = record {
  fresh = λ n le.
      rw (list_any-append (λ (e : Row). e.node == n) rows (rows_at at first node forest), h.fresh n (omega arith), fresh_past n at first node forest le) refl;
  unnamed = λ n le.
      rw (rows_in-append n rows (rows_at at first node forest), h.unnamed n (omega arith), none_past n at first node forest (elder n (omega arith)) le) refl;
}

-- the row of a piece and those of the pieces inside it
pub before_whole : (at : Area) (first : Bool) (node size : ℕ) (sort : Sort) (inner later : Forest) (rows : List Row) →
    IsElder node at → IsBefore node rows →
    IsBefore (node + 1 + count inner) (rows ++ row_at at node size sort ∷ rows_below at first node size sort inner later)
before_whole at first node size sort inner later rows elder h =
    let r : Row = row_at at node size sort in
    let below : List Row = rows_below at first node size sort inner later in
    let child : IsElder (node + 1) (place_in at first node size sort inner later) = λ n le. grind (arith, nat_tests) in
    subst (λ (l : List Row). IsBefore (node + 1 + count inner) l) (append_assoc rows (r ∷ []) below)
    (before_pieces (place_in at first node size sort inner later) true (node + 1) inner (rows ++ r ∷ []) child (before_row at node size sort rows elder h))

-- the place is one of pieces that are cut from this row
pub record IsUnder (e : Row) (at : Area) : Type 0 where
  pub plate : at.plate ≡ e.plate
  pub cut : at.cut ≡ e.cut + 1
  pub along : at.along ≡ lies at.cut
  pub parent : at.parent ≡ Some e.node
  pub width : at.width ≡ e.width
  pub height : at.height ≡ e.height
  pub cut_up : names_branch e.kind ≡ true

-- the place is behind so much of the row that pieces which lie so are cut from
abbrev pub IsPlaced : ℕ → Row → Area → Along → Type 0
IsPlaced filled e at Along.Plates = ⊥
IsPlaced filled e at Along.X = (at.x ≡ e.x + filled) × (at.y ≡ e.y)
IsPlaced filled e at Along.Y = (at.x ≡ e.x) × (at.y ≡ e.y + filled)

-- the next piece of this row stands at this place, has this number, and is behind so much of it
pub record IsNext (e : Row) (at : Area) (node filled : ℕ) (rows : List Row) : Type 0 where
  pub found : find (λ x. x.node == e.node) rows ≡ Some e
  pub numbers : IsBefore node rows
  pub older : e.node < node
  pub filled_is : filled_by at.cut rows e.node ≡ filled
  pub place : IsPlaced filled e at at.along

-- the pieces of a piece lie as their level says
turned_lies : (level : ℕ) → level ≤ 3 → turned (lies level) ≡ lies (level + 1)
turned_lies zero le = refl
turned_lies (suc zero) le = refl
turned_lies (suc (suc zero)) le = refl
turned_lies (suc (suc (suc zero))) le = refl
turned_lies (suc (suc (suc (suc n)))) le = absurd (omega (arith, le))

-- so do the pieces inside a piece that lies as its level says
pub inside_lies : (along : Along) (level : ℕ) → along ≡ lies level → level ≤ 3 → turned along ≡ lies (level + 1)
inside_lies along level e le = ap turned e ∙ turned_lies level le

-- only a strip is the residual
residual_at : (level : ℕ) (sort : Sort) (inner : Forest) → IsOfLevel level sort inner → (not (names_residual (type_number sort)) || (level == 1)) ≡ true
residual_at level (Sort.Item number) inner h = refl
residual_at level Sort.Waste inner h = refl
residual_at level Sort.Branch inner h = refl
residual_at level Sort.Residual inner h = same level 1 h.strip

-- what the last cut makes is not cut
branch_at : (level : ℕ) (sort : Sort) (inner : Forest) → IsOfLevel level sort inner → (not (names_branch (type_number sort)) || not (level == 4)) ≡ true
branch_at level (Sort.Item number) inner h = refl
branch_at level Sort.Waste inner h = refl
branch_at level Sort.Branch inner h =
    let le : level ≤ 3 = h.shallow in
    let other : (level == 4) ≡ false = grind (arith, nat_tests) in
    rw other refl
branch_at level Sort.Residual inner h = refl

-- the sides of a piece are those that its place gives
beside : (filled node size : ℕ) (sort : Sort) (e : Row) (at : Area) (along : Along) → at.along ≡ along → IsUnder e at → IsPlaced filled e at along → filled + size ≤ MOST_SIDE → IsBeside filled e (row_at at node size sort) along
beside filled node size sort e at Along.Plates is h place le = absurd place
beside filled node size sort e at Along.X is h place le =
    let width : width_at at.along size at.width ≡ size = ap (λ a. width_at a size at.width) is in
    let height : height_at at.along size at.height ≡ at.height = ap (λ a. height_at a size at.height) is in
    (place.0, place.1, height ∙ h.height, omega (arith, le, width))
beside filled node size sort e at Along.Y is h place le =
    let width : width_at at.along size at.width ≡ at.width = ap (λ a. width_at a size at.width) is in
    let height : height_at at.along size at.height ≡ size = ap (λ a. height_at a size at.height) is in
    (place.0, place.1, width ∙ h.width, omega (arith, le, height))

-- so the next piece passes
pub next_passes : (filled node size : ℕ) (sort : Sort) (inner : Forest) (e : Row) (at : Area) → IsUnder e at → IsPlaced filled e at at.along → IsOfLevel at.cut sort inner → filled + size ≤ MOST_SIDE → IsNextPiece filled e (row_at at node size sort)
next_passes filled node size sort inner e at h place level le = record {
  plate = h.plate;
  cut = h.cut;
  parent = h.parent;
  cut_up = h.cut_up;
  residual = residual_at at.cut sort inner level;
  branch = branch_at at.cut sort inner level;
  beside = beside filled node size sort e at (lies at.cut) h.along h (subst (IsPlaced filled e at) h.along place) le;
}

-- the pieces inside a piece that is cut are under its row
pub under_inside : (at : Area) (first : Bool) (node size : ℕ) (sort : Sort) (inner later : Forest) → at.along ≡ lies at.cut → at.cut ≤ 3 → sort ≡ Sort.Branch → IsUnder (row_at at node size sort) (place_in at first node size sort inner later)
under_inside at first node size sort inner later lie le branch = record {
  plate = refl;
  cut = refl;
  along = inside_lies at.along at.cut lie le;
  parent = refl;
  width = refl;
  height = refl;
  cut_up = ap (λ (s : Sort). names_branch (type_number s)) branch;
}

-- the first piece inside a row is behind none of it
placed_inside : (at : Area) (first : Bool) (node size : ℕ) (sort : Sort) (inner later : Forest) (along : Along) → IsPlaced 0 (row_at at node size sort) (place_in at first node size sort inner later) (turned along)
placed_inside at first node size sort inner later Along.Plates = (omega arith, refl)
placed_inside at first node size sort inner later Along.X = (refl, omega arith)
placed_inside at first node size sort inner later Along.Y = (omega arith, refl)

-- the first piece inside a row comes next behind it
pub next_inside : (at : Area) (first : Bool) (node size : ℕ) (sort : Sort) (inner later : Forest) (rows : List Row) →
    IsElder node at → IsBefore node rows →
    IsNext (row_at at node size sort) (place_in at first node size sort inner later) (node + 1) 0 (rows ++ row_at at node size sort ∷ [])
next_inside at first node size sort inner later rows elder h =
    let r : Row = row_at at node size sort in
    let this : (node == node) ≡ true = same node node refl in
    record {
      found = rw (find-append (λ (x : Row). x.node == node) rows (r ∷ []), none_found node rows (h.fresh node (omega arith)), this) refl;
      numbers = before_row at node size sort rows elder h;
      older = omega arith;
      filled_is = rw (rows_in-append node rows (r ∷ []), h.unnamed node (omega arith), elder node (omega arith)) refl;
      place = placed_inside at first node size sort inner later at.along;
    }

-- the place behind a piece is behind its size too
moved_piece : (filled size : ℕ) (e : Row) (at : Area) (along : Along) → IsPlaced filled e at along → ((moved along at size).plate ≡ at.plate) × IsPlaced (filled + size) e (moved along at size) along
moved_piece filled size e at Along.Plates h = absurd h
moved_piece filled size e at Along.X h = (refl, (omega (arith, h.0), h.1))
moved_piece filled size e at Along.Y h = (refl, (h.0, omega (arith, h.1)))

-- the pieces behind a piece are under the same row
pub under_behind : (filled size : ℕ) (e : Row) (at : Area) → IsUnder e at → IsPlaced filled e at at.along → IsUnder e (behind at size)
under_behind filled size e at h place =
    let next = behind_next at size in
    record {
      plate = (moved_piece filled size e at at.along place).0 ∙ h.plate;
      cut = next.cut ∙ h.cut;
      along = next.along ∙ h.along ∙ ap lies (sym next.cut);
      parent = next.parent ∙ h.parent;
      width = next.width ∙ h.width;
      height = next.height ∙ h.height;
      cut_up = h.cut_up;
    }

-- a piece's size is the side of its row along its neighbours
pub side_is : (at : Area) (node size : ℕ) (sort : Sort) (along : Along) → at.along ≡ along → (along ≡ Along.Plates → size ≡ 0) → side_along along (row_at at node size sort) ≡ size
side_is at node size sort Along.Plates is none = sym (none refl)
side_is at node size sort Along.X is none = ap (λ a. width_at a size at.width) is
side_is at node size sort Along.Y is none = ap (λ a. height_at a size at.height) is

-- the piece behind a piece comes next behind the rows of that and those inside it
pub next_behind : (filled : ℕ) (e : Row) (at : Area) (first : Bool) (node size : ℕ) (sort : Sort) (inner later : Forest) (rows : List Row) →
    IsUnder e at → IsElder node at → IsNext e at node filled rows →
    IsNext e (behind at size) (node + 1 + count inner) (filled + size) (rows ++ row_at at node size sort ∷ rows_below at first node size sort inner later)
next_behind filled e at first node size sort inner later rows under elder h =
    let r : Row = row_at at node size sort in
    let below : List Row = rows_below at first node size sort inner later in
    let next = behind_next at size in
    let older : e.node < node = h.older in
    let other : (node == e.node) ≡ false = grind (arith, nat_tests) in
    let named : is_number e.node at.parent ≡ true = rw (under.parent) (same e.node e.node refl) in
    let none : rows_in e.node below ≡ [] = none_in e.node (place_in at first node size sort inner later) true (node + 1) inner other (omega arith) in
    let is : rows_in e.node (rows ++ r ∷ below) ≡ rows_in e.node rows ++ r ∷ [] = rw (rows_in-append e.node rows (r ∷ below), named, none) refl in
    let side : side_along (lies at.cut) r ≡ size =
    side_is at node size sort (lies at.cut) under.along (λ plates. absurd (subst (IsPlaced filled e at) (under.along ∙ plates) h.place)) in
    record {
      found = rw (find-append (λ (x : Row). x.node == e.node) rows (r ∷ below), h.found) refl;
      numbers = before_whole at first node size sort inner later rows elder h.numbers;
      older = omega arith;
      filled_is =
          ap (λ c. filled_by c (rows ++ r ∷ below) e.node) next.cut
          ∙ ap (sum_along (lies at.cut)) is
          ∙ omega (arith, sum_along-append (lies at.cut) (rows_in e.node rows) (r ∷ []), h.filled_is, side);
      place = subst (IsPlaced (filled + size) e (behind at size)) (sym next.along) (moved_piece filled size e at at.along h.place).1;
    }
