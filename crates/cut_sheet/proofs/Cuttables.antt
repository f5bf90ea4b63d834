-- A lawful plan can be followed by a table.
use Rattle.std.proofs.Common.{◌≡◌, ℕ, ◌+◌, ◌<◌, ◌≤◌, ◌==◌, ◌⊎◌, inl, inr, List, [], ◌∷◌, ◌++◌, length, length-append, map, Bool, true, false, refl, sym, ap, subst, ◌∙◌, arith, Option, Some, None, IfSome, All, Contains}
use Rattle.std.specs.Prelude.{ℤ, filter}
use Rattle.std.specs.List.{filter_map}
use Rattle.std.proofs.lemmas.Bool.{cases_Bool}
use Rattle.std.proofs.lemmas.Bool.Decides.{nat_tests}
use Rattle.std.proofs.lemmas.List.{map-append}
use Rattle.std.proofs.lemmas.List.Elements.{All-append, All-cons, All-head, All-nil, All-tail, filter-append}
use Rattle.glass_base.specs.declared.item.Item.{Item}
use Rattle.glass_base.specs.Items.{HasSides}
use Rattle.glass_base.specs.Plates.{Width}
use Rattle.glass_base.specs.Problem.{Problem, IsProblem}
use Rattle.glass_base.proofs.Pairs.{contained_cases}
use Rattle.cut_model.specs.declared.family.Along.{Along}
use Rattle.cut_model.specs.declared.family.Area.{Area}
use Rattle.cut_model.specs.declared.family.Family.{Family}
use Rattle.cut_model.specs.declared.family.Row.{Row}
use Rattle.cut_model.specs.declared.family.Sort.{Sort}
use Rattle.cut_model.specs.Families.{behind, families, families_of, first_plate, height_at, inside, moved, row_at, rows_of, side_along, turned, width_at}
use Rattle.cut_model.specs.Lawful.{IsLawful, plate_rows}
use Rattle.cut_model.specs.Order.{cut_order, item_named, item_with}
use Rattle.cut_model.specs.Rules.{HasItsSides, IsTurnOf, KeepsCutRules}
use Rattle.cut_model.specs.Shape.{IsOfLevel, IsShaped}
use Rattle.cut_model.specs.Sized.{on_plates, sized}
use Rattle.cut_model.specs.Tree.{Forest, nothing, piece, count, is_nothing, neighbour_count, total_size, type_number}
use Rattle.cut_model.proofs.OnPlates.{neighbour_count-on_plates}
use Rattle.cut_sheet.specs.Sheets.{CanBeCut, IsCuttable}
use Rattle.cut_sheet.proofs.Making.{HoldOf, below_of, after_of, behind_along, behind_cut, families_nothing, families_piece, family_at, hold_of}

-- what is asked of a number that a row may name
abbrev IsKnown : List Item → ℤ → Type 0
IsKnown items kind = IfSome (item_named kind) (Contains (map (λ item. item.id) items))

-- what holds of all that is filtered holds of each element that has it
all_mapped : {X Y : Type 0} (P : Y → Type 0) (h : X → Option Y) (xs : List X) → All P (filter_map h xs) → All (λ x. IfSome (h x) P) xs
all_mapped P h [] all = All-nil (λ x. IfSome (h x) P)
all_mapped {X} {Y} P h (x ∷ xs) all = by (h x) refl (all_mapped P h xs)
  where
    by : (o : Option Y) → h x ≡ o → (All P (filter_map h xs) → All (λ y. IfSome (h y) P) xs) → All (λ y. IfSome (h y) P) (x ∷ xs)
    by None is later = All-cons (λ y. IfSome (h y) P) x xs (rw is tt) (later (rw is at all))
    by (Some y) is later =
        let found : All P (y ∷ filter_map h xs) = rw is at all in
        All-cons (λ z. IfSome (h z) P) x xs (rw is (All-head P y (filter_map h xs) found)) (later (All-tail P y (filter_map h xs) found))

-- an item of the batch is found by its number
record IsFound (items : List Item) (number : ℕ) : Type 0 where
  item : Item
  is : item_with items number ≡ Some item
  sides : HasSides item

known_found : (items : List Item) (number : ℕ) → All HasSides items → Contains (map (λ item. item.id) items) number → IsFound items number
known_found [] number sides known = absurd (let none = known.1 in omega arith)
known_found (x ∷ xs) number sides known = elim (cases_Bool (x.id == number)) [
  | inl is ↦ record { item = x; is = rw is refl; sides = All-head HasSides x xs sides }
  | inr isnt ↦ elim (contained_cases x.id (map (λ item. item.id) xs) number known) [
    | inl same ↦ absurd (grind (arith, nat_tests))
    | inr later ↦
        let found = known_found xs number (All-tail HasSides x xs sides) later in
        record { item = found.item; is = rw isnt found.is; sides = found.sides }
  ]
]

-- what is asked of each family of a lawful plan
abbrev IsSound : Problem → Family → Type 0
IsSound b f = KeepsCutRules b f × IsKnown b.items f.row.kind

-- where a plate or a strip lies
record LiesAtTop (level : ℕ) (at : Area) : Type 0 where
  plates : level ≡ 0 → (at.along ≡ Along.Plates) × (0 < at.height)
  strips : level ≡ 1 → (at.along ≡ Along.X) × (0 < at.height)

behind_height : (along : Along) (at : Area) (size : ℕ) → (moved along at size).height ≡ at.height
behind_height Along.Plates at size = refl
behind_height Along.X at size = refl
behind_height Along.Y at size = refl

top_behind : (level : ℕ) (at : Area) (size : ℕ) → LiesAtTop level at → LiesAtTop level (behind at size)
top_behind level at size top =
    let along = behind_along at.along at size in
    let height = behind_height at.along at size in
    record {
      plates = λ is. (along ∙ (top.plates is).0, subst (λ n. 0 < n) (sym height) (top.plates is).1);
      strips = λ is. (along ∙ (top.strips is).0, subst (λ n. 0 < n) (sym height) (top.strips is).1);
    }

top_inside : (level : ℕ) (at : Area) (first : Bool) (node size : ℕ) (sort : Sort) (inner later : Forest) → LiesAtTop level at → LiesAtTop (level + 1) (inside (family_at at first node size sort inner later))
top_inside level at first node size sort inner later top = record {
  plates = λ is. absurd (omega (arith, is));
  strips = λ is.
      let plate = top.plates (omega (arith, is)) in
      (ap turned plate.0, subst (λ (along : Along). 0 < height_at along size at.height) (sym plate.0) plate.1);
}

-- a piece that is cut has the sides of those inside it
branch_sides : (along : Along) (row : Row) (size rest : ℕ) → 0 < width_at (turned along) size row.width → 0 < height_at (turned along) size row.height → size + rest ≡ side_along (turned along) row →
    (0 < row.width) × (0 < row.height)
branch_sides Along.Plates row size rest width height sum = (omega (arith, width, sum), height)
branch_sides Along.X row size rest width height sum = (width, omega (arith, height, sum))
branch_sides Along.Y row size rest width height sum = (omega (arith, width, sum), height)

branch_can : (b : Problem) (at : Area) (first : Bool) (node size : ℕ) (inner later : Forest) → KeepsCutRules b (family_at at first node size Sort.Branch inner later) →
    All CanBeCut (below_of at first node size Sort.Branch inner later) → CanBeCut (family_at at first node size Sort.Branch inner later)
branch_can b at first node size nothing later keeps below = let some = keeps.l1.0 in cc
branch_can b at first node size (piece size2 sort2 inner2 later2) later keeps below =
    let f : Family = family_at at first node size Sort.Branch (piece size2 sort2 inner2 later2) later in
    let one = (hold_of CanBeCut (inside f) true (node + 1) size2 sort2 inner2 later2 below).here in
    let sides = branch_sides at.along f.row size2 (total_size later2) one.width one.height keeps.l1.1 in
    record { sums = keeps.l1; width = sides.0; height = sides.1 }

item_sides : (row : Row) (item : Item) → HasSides item → IsTurnOf row item → (0 < row.width) × (0 < row.height)
item_sides row item sides (inl is) = (omega (arith, sides.0, is.0), omega (arith, sides.1, is.1))
item_sides row item sides (inr is) = (omega (arith, sides.1, is.0), omega (arith, sides.0, is.1))

-- a piece of any sort
one_can : (b : Problem) (level : ℕ) (at : Area) (first : Bool) (node size : ℕ) (sort : Sort) (inner later : Forest) → IsProblem b → LiesAtTop level at → IsOfLevel level sort inner →
    IsSound b (family_at at first node size sort inner later) → All CanBeCut (below_of at first node size sort inner later) → CanBeCut (family_at at first node size sort inner later)
one_can b level at first node size (Sort.Item number) inner later rules top is sound below =
    let f : Family = family_at at first node size (Sort.Item number) inner later in
    let found = known_found b.items number rules.sides sound.1 in
    let turn : IsTurnOf f.row found.item = rw found.is at sound.0.l2 in
    let sides = item_sides f.row found.item found.sides turn in
    record { sums = tt; width = sides.0; height = sides.1 }
one_can b level at first node size Sort.Waste inner later rules top is sound below =
    let broad = sound.0.l3 in
    record { sums = tt; width = omega (arith, broad.0, b.params.accepted.waste_positive); height = omega (arith, broad.1, b.params.accepted.waste_positive) }
one_can b level at first node size Sort.Residual inner later rules top is sound below =
    let strip = top.strips is.strip in
    record {
      sums = tt;
      width = omega (arith, sound.0.l3, b.params.accepted.waste_positive);
      height = subst (λ (along : Along). 0 < height_at along size at.height) (sym strip.0) strip.1;
    }
one_can b level at first node size Sort.Branch inner later rules top is sound below = branch_can b at first node size inner later sound.0 below

-- a piece, those inside it and those behind it
joined_can : (b : Problem) (level : ℕ) (at : Area) (first : Bool) (node size : ℕ) (sort : Sort) (inner later : Forest) → IsProblem b → LiesAtTop level at → IsOfLevel level sort inner →
    IsSound b (family_at at first node size sort inner later) → All CanBeCut (below_of at first node size sort inner later) → All CanBeCut (after_of at node size inner later) →
    All CanBeCut (families at first node (piece size sort inner later))
joined_can b level at first node size sort inner later rules top is sound below after =
    let f : Family = family_at at first node size sort inner later in
    subst (All CanBeCut) (sym (families_piece at first node size sort inner later))
    (All-cons CanBeCut f (below_of at first node size sort inner later ++ after_of at node size inner later) (one_can b level at first node size sort inner later rules top is sound below)
    (All-append CanBeCut (below_of at first node size sort inner later) (after_of at node size inner later) below after))

-- all pieces of a plate, or of a piece
all_can : (b : Problem) (level : ℕ) (at : Area) (first : Bool) (node : ℕ) (forest : Forest) → IsProblem b → LiesAtTop level at → IsShaped level forest →
    All (IsSound b) (families at first node forest) → All CanBeCut (families at first node forest)
all_can b level at first node nothing rules top shape sound = subst (All CanBeCut) (sym (families_nothing at first node)) (All-nil CanBeCut)
all_can b level at first node (piece size sort inner later) rules top shape sound =
    let h = hold_of (IsSound b) at first node size sort inner later sound in
    let f : Family = family_at at first node size sort inner later in
    joined_can b level at first node size sort inner later rules top shape.1 h.here
    (all_can b (level + 1) (inside f) true (node + 1) inner rules (top_inside level at first node size sort inner later top) shape.2 h.below)
    (all_can b level (behind at size) false (node + 1 + count inner) later rules (top_behind level at size top) shape.3 h.after)

-- all plates
plates_can : (b : Problem) (plate : ℕ) (at : Area) (first : Bool) (node : ℕ) (plan : Forest) → IsProblem b → LiesAtTop 0 at → IsShaped 0 plan →
    All (IsSound b) (families at first node (sized b plate plan)) → All CanBeCut (families at first node (sized b plate plan))
plates_can b plate at first node nothing rules top shape sound = subst (All CanBeCut) (sym (families_nothing at first node)) (All-nil CanBeCut)
plates_can b plate at first node (piece size sort inner later) rules top shape sound =
    let behind_it : Forest = sized b (plate + 1) later in
    let h = hold_of (IsSound b) at first node (Width b plate) sort inner behind_it sound in
    let f : Family = family_at at first node (Width b plate) sort inner behind_it in
    joined_can b 0 at first node (Width b plate) sort inner behind_it rules top shape.1 h.here
    (all_can b 1 (inside f) true (node + 1) inner rules (top_inside 0 at first node (Width b plate) sort inner behind_it top) shape.2 h.below)
    (plates_can b (plate + 1) (behind at (Width b plate)) false (node + 1 + count inner) later rules (top_behind 0 at (Width b plate) top) shape.3 h.after)

-- there is a plate row for each plate
plates_counted : (at : Area) (first : Bool) (node : ℕ) (forest : Forest) → at.cut ≡ 0 → neighbour_count forest ≤ length (plate_rows (map (λ f. f.row) (families at first node forest)))
plates_counted at first node nothing zero_cut = omega arith
plates_counted at first node (piece size sort inner later) zero_cut =
    let below : List Row = map (λ f. f.row) (below_of at first node size sort inner later) in
    let after : List Row = map (λ f. f.row) (after_of at node size inner later) in
    let row : Row = row_at at node size sort in
    let test : (at.cut == 0) ≡ true = grind (arith, nat_tests) in
    let mine : plate_rows (row ∷ (below ++ after)) ≡ row ∷ plate_rows (below ++ after) = rw test refl in
    let split : map (λ f. f.row) (families at first node (piece size sort inner later)) ≡ row ∷ (below ++ after) =
    ap (map (λ (f : Family). f.row)) (families_piece at first node size sort inner later)
    ∙ ap (λ (rows : List Row). row ∷ rows) (map-append (λ (f : Family). f.row) (below_of at first node size sort inner later) (after_of at node size inner later)) in
    omega (
      arith,
      ap length (ap plate_rows split ∙ mine),
      ap length (filter-append (λ (r : Row). r.cut == 0) below after),
      length-append (plate_rows below) (plate_rows after),
      plates_counted (behind at size) false (node + 1 + count inner) later (behind_cut at.along at size ∙ zero_cut),
    )

all_unmapped : {X Y : Type 0} (P : Y → Type 0) (f : X → Y) (xs : List X) → All P (map f xs) → All (λ x. P (f x)) xs
all_unmapped P f [] all = All-nil (λ x. P (f x))
all_unmapped P f (x ∷ xs) all = All-cons (λ y. P (f y)) x xs (All-head P (f x) (map f xs) all) (all_unmapped P f xs (All-tail P (f x) (map f xs) all))

pub lawful_cuttable : (b : Problem) (plan : Forest) → IsProblem b → IsLawful b plan → IsCuttable b plan
lawful_cuttable b plan rules lawful =
    let rows : List Row = rows_of b plan in
    let known : All (λ (r : Row). IsKnown b.items r.kind) rows = all_mapped (Contains (map (λ item. item.id) b.items)) (λ (r : Row). item_named r.kind) rows lawful.order.each_once.known in
    let of_families : All (λ (f : Family). IsKnown b.items f.row.kind) (families_of b plan) = all_unmapped (λ (r : Row). IsKnown b.items r.kind) (λ (f : Family). f.row) (families_of b plan) known in
    let sound : All (IsSound b) (families_of b plan) = λ k d lt. (lawful.cuts k d lt, of_families k d lt) in
    let high : 0 < b.params.height = omega (arith, b.params.accepted.high) in
    let top : LiesAtTop 0 (first_plate b) = record { plates = λ is. (refl, high); strips = λ is. absurd (omega (arith, is)) } in
    record {
      few = omega (arith, plates_counted (first_plate b) true 0 (on_plates b plan) refl, neighbour_count-on_plates b plan, lawful.order.few_plates);
      pieces = plates_can b 0 (first_plate b) true 0 plan rules top lawful.shape sound;
    }
