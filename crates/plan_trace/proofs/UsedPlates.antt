-- The plates of a plan: an item is cut from each where its pieces hold one, and there are as many plate rows as plates.
use Rattle.std.proofs.Common.{◌≡◌, ℕ, zero, suc, ◌+◌, ◌==◌, ◌≤◌, inl, inr, List, [], ◌∷◌, ◌++◌, length, refl, sym, ap, ◌∙◌, subst, arith, Bool, true, false, All}
use Rattle.std.specs.Prelude.{Any}
use Rattle.std.proofs.lemmas.Bool.{cases_lt}
use Rattle.std.proofs.lemmas.Bool.Decides.{nat_tests}
use Rattle.std.proofs.lemmas.List.Elements.{All-nil, All-cons, All-weaker, filter-append}
use Rattle.std.proofs.lemmas.List.{length-append}
use Rattle.cut_model.specs.declared.family.Row.{Row}
use Rattle.cut_model.specs.declared.family.Sort.{Sort}
use Rattle.cut_model.specs.declared.family.Along.{Along}
use Rattle.cut_model.specs.declared.family.Area.{Area}
use Rattle.glass_base.specs.Problem.{Problem}
use Rattle.cut_model.specs.Sized.{sized}
use Rattle.cut_model.specs.Tree.{Forest, nothing, piece, count, neighbour_count}
use Rattle.cut_model.specs.Families.{inside, behind, moved, row_at, turned}
use Rattle.cut_model.specs.Lawful.{IsItemOn, UsesEachPlate, plate_rows}
use Rattle.cut_model.proofs.Cutting.{items_in}
use Rattle.loss_area.proofs.Areas.{family_at, rows_at, rows_piece, rows_nothing, rows_below, rows_after}

any_later : {X : Type 0} (P : X → Type 0) (x : X) (xs : List X) → Any P xs → Any P (x ∷ xs)
any_later P x xs h = (suc h.0, h.1, omega (arith, h.2), h.3, h.4)

any_right : {X : Type 0} (P : X → Type 0) (xs ys : List X) → Any P ys → Any P (xs ++ ys)
any_right P [] ys h = h
any_right P (x ∷ xs) ys h = any_later P x (xs ++ ys) (any_right P xs ys h)

any_left : {X : Type 0} (P : X → Type 0) (xs ys : List X) → Any P xs → Any P (xs ++ ys)
any_left P [] ys (k, x, lt, is, holds) = absurd (omega (arith, lt))
any_left P (y ∷ xs) ys (zero, x, lt, is, holds) = (zero, x, omega arith, is, holds)
any_left P (y ∷ xs) ys (suc k, x, lt, is, holds) = any_later P y (xs ++ ys) (any_left P xs ys (k, x, omega (arith, lt), is, holds))

-- neighbours on one plate
abbrev pub OnOne : Along → Type 0
OnOne Along.Plates = ⊥
OnOne Along.X = Unit {0}
OnOne Along.Y = Unit {0}

pub turned_one : (along : Along) → OnOne (turned along)
turned_one Along.Plates = tt
turned_one Along.X = tt
turned_one Along.Y = tt

pub moved_one : (along : Along) (at : Area) (size : ℕ) → OnOne along → OnOne at.along → ((moved along at size).plate ≡ at.plate) × OnOne (moved along at size).along
moved_one Along.Plates at size one h = absurd one
moved_one Along.X at size one h = (refl, h)
moved_one Along.Y at size one h = (refl, h)

-- an item inside a piece or behind it
part_holds : (plate : ℕ) (row : Row) (below after : List Row) (inner later : Forest) → (1 ≤ length (items_in inner) → Any (IsItemOn plate) below) → (1 ≤ length (items_in later) → Any (IsItemOn plate) after) →
    1 ≤ length (items_in inner ++ items_in later) → Any (IsItemOn plate) (row ∷ (below ++ after))
part_holds plate row below after inner later in_it behind_it some =
    elim (cases_lt 0 (length (items_in inner))) [
      | inl lt ↦ any_later (IsItemOn plate) row (below ++ after) (any_left (IsItemOn plate) below after (in_it lt))
      | inr none ↦ any_later (IsItemOn plate) row (below ++ after) (any_right (IsItemOn plate) below after (behind_it (omega (arith, some, none, length-append (items_in inner) (items_in later)))))
    ]

piece_holds : (at : Area) (first : Bool) (node size : ℕ) (sort : Sort) (inner later : Forest) → (1 ≤ length (items_in inner) → Any (IsItemOn at.plate) (rows_below at first node size sort inner later)) →
    (1 ≤ length (items_in later) → Any (IsItemOn at.plate) (rows_after at node size inner later)) → 1 ≤ length (items_in (piece size sort inner later)) →
    Any (IsItemOn at.plate) (row_at at node size sort ∷ (rows_below at first node size sort inner later ++ rows_after at node size inner later))
piece_holds at first node size (Sort.Item number) inner later in_it behind_it some = (zero, row_at at node size (Sort.Item number), omega arith, refl, (refl, refl))
piece_holds at first node size Sort.Waste inner later in_it behind_it some = part_holds at.plate _ _ _ inner later in_it behind_it some
piece_holds at first node size Sort.Branch inner later in_it behind_it some = part_holds at.plate _ _ _ inner later in_it behind_it some
piece_holds at first node size Sort.Residual inner later in_it behind_it some = part_holds at.plate _ _ _ inner later in_it behind_it some

-- where pieces hold an item, one is cut from their plate
holds_one : (at : Area) (first : Bool) (node : ℕ) (forest : Forest) → OnOne at.along → 1 ≤ length (items_in forest) → Any (IsItemOn at.plate) (rows_at at first node forest)
holds_one at first node nothing one some = absurd (omega (arith, some))
holds_one at first node (piece size sort inner later) one some =
    let on = moved_one at.along at size one one in
    let next : ℕ = node + 1 + count inner in
    rw (rows_piece at first node size sort inner later)
    (piece_holds at first node size sort inner later
    (holds_one (inside (family_at at first node size sort inner later)) true (node + 1) inner (turned_one at.along))
    (λ lt. subst (λ (n : ℕ). Any (IsItemOn n) (rows_at (behind at size) false next later)) on.0 (holds_one (behind at size) false next later on.1 lt))
    some)

-- each of these plates holds an item
abbrev pub EachHolds : Forest → Type 0
EachHolds nothing = Unit {0}
EachHolds (piece size sort inner later) = (1 ≤ length (items_in inner)) × EachHolds later

-- so it is of the plates with their widths
pub holds_sized : (b : Problem) (plate : ℕ) (plan : Forest) → EachHolds plan → EachHolds (sized b plate plan)
holds_sized b plate nothing h = tt
holds_sized b plate (piece size sort inner later) h = (h.0, holds_sized b (plate + 1) later h.1)

-- no plate lies inside a piece
cut_behind : (along : Along) (at : Area) (size : ℕ) → (moved along at size).cut ≡ at.cut
cut_behind Along.Plates at size = refl
cut_behind Along.X at size = refl
cut_behind Along.Y at size = refl

plate_rows_both : (xs ys : List Row) → plate_rows (xs ++ ys) ≡ plate_rows xs ++ plate_rows ys
plate_rows_both xs ys = filter-append (λ row. row.cut == 0) xs ys

no_plates : (at : Area) (first : Bool) (node : ℕ) (forest : Forest) → 1 ≤ at.cut → plate_rows (rows_at at first node forest) ≡ []
no_plates at first node nothing le = ap plate_rows (rows_nothing at first node nothing refl)
no_plates at first node (piece size sort inner later) le =
    let below : List Row = rows_below at first node size sort inner later in
    let after : List Row = rows_after at node size inner later in
    let test : (at.cut == 0) ≡ false = grind (arith, nat_tests) in
    let mine : plate_rows (row_at at node size sort ∷ (below ++ after)) ≡ plate_rows (below ++ after) = rw test refl in
    ap plate_rows (rows_piece at first node size sort inner later) ∙ mine ∙ plate_rows_both below after
    ∙ ap (λ (rows : List Row). rows ++ plate_rows after) (no_plates (inside (family_at at first node size sort inner later)) true (node + 1) inner (omega arith))
    ∙ no_plates (behind at size) false (node + 1 + count inner) later (omega (arith, cut_behind at.along at size, le))

-- a plate, then the plates behind it
pub plate_rows_piece : (at : Area) (first : Bool) (node size : ℕ) (sort : Sort) (inner later : Forest) → at.cut ≡ 0 →
    plate_rows (rows_at at first node (piece size sort inner later)) ≡ row_at at node size sort ∷ plate_rows (rows_after at node size inner later)
plate_rows_piece at first node size sort inner later zero_cut =
    let below : List Row = rows_below at first node size sort inner later in
    let after : List Row = rows_after at node size inner later in
    let row : Row = row_at at node size sort in
    let test : (at.cut == 0) ≡ true = grind (arith, nat_tests) in
    let mine : plate_rows (row ∷ (below ++ after)) ≡ row ∷ plate_rows (below ++ after) = rw test refl in
    ap plate_rows (rows_piece at first node size sort inner later) ∙ mine
    ∙ ap (λ (rows : List Row). row ∷ rows)
    (plate_rows_both below after ∙ ap (λ (rows : List Row). rows ++ plate_rows after) (no_plates (inside (family_at at first node size sort inner later)) true (node + 1) inner (omega arith)))

-- an item is cut from each plate
pub all_used : (at : Area) (first : Bool) (node : ℕ) (forest : Forest) → at.cut ≡ 0 → EachHolds forest → UsesEachPlate (rows_at at first node forest)
all_used at first node nothing zero_cut h = rw (rows_nothing at first node nothing refl) (All-nil _)
all_used at first node (piece size sort inner later) zero_cut h =
    let next : ℕ = node + 1 + count inner in
    let whole : List Row = rows_at at first node (piece size sort inner later) in
    let rest : List Row = rows_after at node size inner later in
    let split = rows_piece at first node size sort inner later in
    let Used : Row → Type 0 = λ (p : Row). Any (IsItemOn p.plate) whole in
    subst (All Used) (sym (plate_rows_piece at first node size sort inner later zero_cut))
    (All-cons Used _ _
    (subst (Any (IsItemOn at.plate)) (sym split)
    (any_later (IsItemOn at.plate) _ _
    (any_left (IsItemOn at.plate) _ rest (holds_one (inside (family_at at first node size sort inner later)) true (node + 1) inner (turned_one at.along) h.0))))
    (All-weaker (λ (p : Row). Any (IsItemOn p.plate) rest) Used
    (λ (p : Row) used. subst (Any (IsItemOn p.plate)) (sym split) (any_later (IsItemOn p.plate) _ _ (any_right (IsItemOn p.plate) _ rest used)))
    (plate_rows rest)
    (all_used (behind at size) false next later (cut_behind at.along at size ∙ zero_cut) h.1)))

-- there are as many plate rows as plates
pub plate_count : (at : Area) (first : Bool) (node : ℕ) (forest : Forest) → at.cut ≡ 0 → length (plate_rows (rows_at at first node forest)) ≡ neighbour_count forest
plate_count at first node nothing zero_cut = ap (λ (rows : List Row). length (plate_rows rows)) (rows_nothing at first node nothing refl)
plate_count at first node (piece size sort inner later) zero_cut =
    omega (
      arith,
      ap length (plate_rows_piece at first node size sort inner later zero_cut),
      plate_count (behind at size) false (node + 1 + count inner) later (cut_behind at.along at size ∙ zero_cut),
    )
