-- Rows on plates with other numbers cut the same items and waste as much, and as many of them are plates.
use Rattle.std.proofs.Common.{◌≡◌, ℕ, zero, suc, ◌+◌, ◌==◌, inl, inr, List, [], ◌∷◌, ◌++◌, map, length, Bool, true, false, refl, ap, ◌∙◌, arith, All}
use Rattle.std.specs.Prelude.{ℤ, pos, negsuc}
use Rattle.std.specs.List.{cons_option}
use Rattle.std.proofs.lemmas.Bool.{cases_Bool}
use Rattle.std.proofs.lemmas.Bool.Decides.{nat_tests}
use Rattle.std.proofs.lemmas.List.{map-append}
use Rattle.std.proofs.lemmas.List.Elements.{All-append, All-cons, All-map, All-nil, filter-append}
use Rattle.glass_base.specs.Plates.{Width}
use Rattle.glass_base.specs.Problem.{Problem}
use Rattle.cut_model.specs.declared.family.Along.{Along}
use Rattle.cut_model.specs.declared.family.Area.{Area}
use Rattle.cut_model.specs.declared.family.Family.{Family}
use Rattle.cut_model.specs.declared.family.Row.{Row}
use Rattle.cut_model.specs.Families.{behind, families, family_with, inside, moved, rows_of}
use Rattle.cut_model.specs.Lawful.{plate_rows}
use Rattle.cut_model.specs.Sized.{sized}
use Rattle.cut_model.specs.Loss.{area_wasted, waste_of}
use Rattle.cut_model.specs.Order.{cut_order, item_named}
use Rattle.cut_model.specs.Tree.{Forest, nothing, piece, children_in, count, is_nothing, neighbour_count}
use Rattle.cut_model.proofs.Places.{plate_at}
use Rattle.plan_freeze.proofs.Beginning.{frozen_families}
use Rattle.plan_freeze.proofs.Lists.{filter_none}
use Rattle.plan_freeze.proofs.Shifted.{shifted, shifted_row}

abbrev pub rows : List Family → List Row
rows fs = map (λ f. f.row) fs

pub rows_shifted : (k n : ℕ) (fs : List Family) → rows (map (shifted k n) fs) ≡ map (shifted_row k n) (rows fs)
rows_shifted k n [] = refl
rows_shifted k n (f ∷ fs) = ap (λ (l : List Row). shifted_row k n f.row ∷ l) (rows_shifted k n fs)

pub items_shifted : (k n : ℕ) (rs : List Row) → cut_order (map (shifted_row k n) rs) ≡ cut_order rs
items_shifted k n [] = refl
items_shifted k n (r ∷ rs) = ap (cons_option (item_named r.kind)) (items_shifted k n rs)

area_shifted : (k n : ℕ) (kind : ℤ) (r : Row) → area_wasted kind (shifted_row k n r) ≡ area_wasted kind r
area_shifted k n (pos number) r = refl
area_shifted k n (negsuc zero) r = refl
area_shifted k n (negsuc (suc below)) r = refl

pub waste_shifted : (k n : ℕ) (rs : List Row) → waste_of (map (shifted_row k n) rs) ≡ waste_of rs
waste_shifted k n [] = refl
waste_shifted k n (r ∷ rs) = omega (arith, area_shifted k n r.kind r, waste_shifted k n rs)

pub plates_shifted : (k n : ℕ) (rs : List Row) → plate_rows (map (shifted_row k n) rs) ≡ map (shifted_row k n) (plate_rows rs)
plates_shifted k n [] = refl
plates_shifted k n (r ∷ rs) = elim (cases_Bool (r.cut == 0)) [
  | inl is ↦ rw is (ap (λ (l : List Row). shifted_row k n r ∷ l) (plates_shifted k n rs))
  | inr isnt ↦ rw isnt (plates_shifted k n rs)
]

-- no plate lies inside a piece
cut_behind : (along : Along) (at : Area) (size : ℕ) → (moved along at size).cut ≡ at.cut
cut_behind Along.Plates at size = refl
cut_behind Along.X at size = refl
cut_behind Along.Y at size = refl

no_plate : (at : Area) (first : Bool) (node : ℕ) (forest : Forest) (cut : ℕ) → at.cut ≡ cut + 1 → All (λ f. (f.row.cut == 0) ≡ false) (families at first node forest)
unfolding families
no_plate at first node nothing cut is = All-nil _
no_plate at first node (piece size sort inner later) cut is =
    let f : Family = family_with at first (is_nothing later) node size sort (children_in inner) in
    let test : (at.cut == 0) ≡ false = grind (arith, nat_tests) in
    All-cons (λ (g : Family). (g.row.cut == 0) ≡ false) f _ test
    (All-append (λ (g : Family). (g.row.cut == 0) ≡ false) _ _
    (no_plate (inside f) true (node + 1) inner (cut + 1) (ap (λ (c : ℕ). c + 1) is))
    (no_plate (behind at size) false (node + 1 + count inner) later cut (cut_behind at.along at size ∙ is)))

no_plate_rows : (fs : List Family) → All (λ f. (f.row.cut == 0) ≡ false) fs → plate_rows (rows fs) ≡ []
no_plate_rows fs h = filter_none (λ (r : Row). r.cut == 0) (rows fs) (All-map (λ (r : Row). (r.cut == 0) ≡ false) (λ (f : Family). f.row) fs h)

-- the first plates have a row each
pub frozen_plates : (b : Problem) (plate : ℕ) (first : Bool) (node : ℕ) (plan : Forest) → length (plate_rows (rows (frozen_families b plate first node plan))) ≡ neighbour_count plan
unfolding frozen_families
frozen_plates b plate first node nothing = refl
frozen_plates b plate first node (piece size sort inner later) =
    let f : Family = family_with (plate_at b plate) first false node (Width b plate) sort (children_in inner) in
    let below : List Family = families (inside f) true (node + 1) inner in
    let after : List Family = frozen_families b (plate + 1) false (node + 1 + count inner) later in
    let none : plate_rows (rows below) ≡ [] = no_plate_rows below (no_plate (inside f) true (node + 1) inner 0 refl) in
    let both : plate_rows (rows (below ++ after)) ≡ plate_rows (rows after) =
    ap plate_rows (map-append (λ (g : Family). g.row) below after) ∙ filter-append (λ (r : Row). r.cut == 0) (rows below) (rows after)
    ∙ ap (λ (l : List Row). l ++ plate_rows (rows after)) none in
    omega (arith, ap length both, frozen_plates b (plate + 1) false (node + 1 + count inner) later)

-- each plate of a plan has a row
plates_from : (b : Problem) (plate : ℕ) (first : Bool) (node : ℕ) (plan : Forest) → length (plate_rows (rows (families (plate_at b plate) first node (sized b plate plan)))) ≡ neighbour_count plan
unfolding families
plates_from b plate first node nothing = refl
plates_from b plate first node (piece size sort inner later) =
    let f : Family = family_with (plate_at b plate) first (is_nothing (sized b (plate + 1) later)) node (Width b plate) sort (children_in inner) in
    let below : List Family = families (inside f) true (node + 1) inner in
    let after : List Family = families (plate_at b (plate + 1)) false (node + 1 + count inner) (sized b (plate + 1) later) in
    let none : plate_rows (rows below) ≡ [] = no_plate_rows below (no_plate (inside f) true (node + 1) inner 0 refl) in
    let both : plate_rows (rows (below ++ after)) ≡ plate_rows (rows after) =
    ap plate_rows (map-append (λ (g : Family). g.row) below after) ∙ filter-append (λ (r : Row). r.cut == 0) (rows below) (rows after)
    ∙ ap (λ (l : List Row). l ++ plate_rows (rows after)) none in
    omega (arith, ap length both, plates_from b (plate + 1) false (node + 1 + count inner) later)

pub whole_plates : (b : Problem) (plan : Forest) → length (plate_rows (rows_of b plan)) ≡ neighbour_count plan
whole_plates b plan = plates_from b 0 true 0 plan
