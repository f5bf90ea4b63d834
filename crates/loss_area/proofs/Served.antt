-- The items that a lawful plan cuts have the area of the items of the batch.
use Rattle.std.proofs.Common.{◌≡◌, ◌≢◌, ℕ, ◌+◌, ◌*◌, ◌≤◌, ◌==◌, inl, inr, List, [], ◌∷◌, ◌++◌, map, get_or, refl, sym, ap, subst, ◌∙◌, arith, Bool, true, false, Option, Some, IfSome, All, AllPairs, Contains}
use Rattle.std.specs.List.{cons_option, remove, sum_by}
use Rattle.std.proofs.Math.Nat.{mul_comm}
use Rattle.std.specs.List.Sorted.{IsPermutation}
use Rattle.std.specs.Option.{option_map_or}
use Rattle.std.proofs.lemmas.Bool.{cases_Bool}
use Rattle.std.proofs.lemmas.Bool.Decides.{nat_tests}
use Rattle.std.proofs.lemmas.List.Elements.{All-head, All-tail, All-contains_itself}
use Rattle.std.proofs.lemmas.List.Sums.{sum_by-append, sum_by-cons}
use Rattle.std.proofs.lemmas.List.Sorted.{Contains-permutation, IsPermutation-remove, sum_by_popped}
use Rattle.glass_base.specs.declared.item.Item.{Item}
use Rattle.glass_base.specs.Items.{DifferentIds, area_of}
use Rattle.glass_base.specs.Problem.{Problem}
use Rattle.glass_base.proofs.Found.{Distinct, item_found}
use Rattle.glass_base.proofs.Pairs.{contained_cases, pairs_head, pairs_tail, pairs_map}
use Rattle.cut_model.specs.declared.family.Row.{Row}
use Rattle.cut_model.specs.declared.family.Sort.{Sort}
use Rattle.cut_model.specs.declared.family.Area.{Area}
use Rattle.cut_model.specs.declared.family.Family.{Family}
use Rattle.cut_model.specs.Tree.{Forest, nothing, piece, count, type_number}
use Rattle.cut_model.specs.Families.{behind, families, families_of, first_plate, inside, row_at, rows_of}
use Rattle.cut_model.specs.Lawful.{CutsEachOnce}
use Rattle.cut_model.specs.Order.{cut_order, item_named, item_with}
use Rattle.cut_model.specs.Rules.{HasItsSides, IsTurnOf}
use Rattle.cut_model.specs.Sized.{on_plates}
use Rattle.cut_model.proofs.Cutting.{items_in, rows_cut, sized_cut}
use Rattle.loss_area.proofs.Areas.{All-both, area_cut, cut_of, cut_of-append, family_at, hold_of, rows_at, rows_below, rows_after, rows_nothing, rows_piece}

-- different numbers, each among the others, have no greater sum
pub sum_within : (f : ℕ → ℕ) (xs ys : List ℕ) → Distinct xs → All (Contains ys) xs → sum_by f xs ≤ sum_by f ys
sum_within f [] ys apart within = omega arith
sum_within f (x ∷ xs) ys apart within =
    let has = All-head (Contains ys) x xs within in
    let rest : List ℕ = remove ys has.0 in
    let moved : IsPermutation ys (x ∷ rest) = IsPermutation-remove ys has.0 x has.1 (sym has.2) in
    let others : All (Contains rest) xs = λ k d lt.
    elim (contained_cases x rest (get_or xs k d) (Contains-permutation ys (x ∷ rest) (get_or xs k d) moved (All-tail (Contains ys) x xs within k d lt))) [
      | inl e ↦ absurd (pairs_head (λ a b. a ≢ b) x xs apart k d lt e)
      | inr later ↦ later
    ] in
    omega (arith, sum_within f xs rest (pairs_tail (λ a b. a ≢ b) x xs apart) others, sum_by-cons f x xs, sum_by_popped f x ys rest moved)

-- the area of the item that has this number, 0 where there is none
abbrev pub area_with : List Item → ℕ → ℕ
area_with items number = option_map_or (λ item. item.length * item.width) (item_with items number) 0

-- the numbers of items
abbrev pub ids_of : List Item → List ℕ
ids_of items = map (λ item. item.id) items

-- items are found again by their numbers
ids_area : (items xs : List Item) → AllPairs DifferentIds items → All (Contains items) xs → sum_by (area_with items) (ids_of xs) ≡ area_of xs
ids_area items [] apart h = refl
ids_area items (item ∷ xs) apart h =
    let has = All-head (Contains items) item xs h in
    let found : area_with items item.id ≡ item.length * item.width = rw (item_found items has.0 item apart has.1 has.2) refl in
    omega (
      arith,
      found,
      ids_area items xs apart (All-tail (Contains items) item xs h),
      sum_by-cons (area_with items) item.id (ids_of xs),
      sum_by-cons (λ (t : Item). t.length * t.width) item xs,
    )

-- numbers of the batch's items, each once, have the area of its items
pub order_area : (items : List Item) (order : List ℕ) → AllPairs DifferentIds items → CutsEachOnce items order → sum_by (area_with items) order ≡ area_of items
order_area items order apart h =
    let distinct : Distinct (ids_of items) = pairs_map (λ a b. a ≢ b) (λ (item : Item). item.id) items apart in
    omega (
      arith,
      sum_within (area_with items) order (ids_of items) h.once h.known,
      sum_within (area_with items) (ids_of items) order distinct h.all,
      ids_area items items apart (All-contains_itself items),
    )

-- a number of the batch's items names one of them
named : (items : List Item) (number : ℕ) → Contains (ids_of items) number → (item : Item) × (item_with items number ≡ Some item)
named [] number has = absurd (omega (arith, has.1))
named (item ∷ items) number has =
    elim (cases_Bool (item.id == number)) [
      | inl is ↦ (item, rw is refl)
      | inr isnt ↦ elim (contained_cases item.id (ids_of items) number has) [
        | inl e ↦ absurd (grind (arith, nat_tests))
        | inr later ↦ let rest = named items number later in (rest.0, rw isnt rest.1)
      ]
    ]

-- in both turns an item has its area
turn_area : (row : Row) (item : Item) → IsTurnOf row item → row.width * row.height ≡ item.length * item.width
turn_area row item (inl h) = rw (h.0, h.1) refl
turn_area row item (inr h) = rw (h.0, h.1) (mul_comm item.width item.length)

-- an item piece has the area of its item
item_area : (items : List Item) (number : ℕ) (row : Row) → IfSome (item_with items number) (IsTurnOf row) → Contains (ids_of items) number → row.width * row.height ≡ area_with items number
item_area items number row sides has =
    let item = named items number has in
    let turn : IsTurnOf row item.0 = rw item.1 at sides in
    turn_area row item.0 turn ∙ ap (λ (o : Option Item). option_map_or (λ t. t.length * t.width) o 0) (sym item.1)

-- an item piece has its item's sides
abbrev pub KeepsSides : List Item → Family → Type 0
KeepsSides items f = HasItsSides items f f.sort

-- the numbers of a piece's items
abbrev numbers : Sort → Forest → Forest → List ℕ
numbers sort inner later = cons_option (item_named (type_number sort)) (items_in inner ++ items_in later)

-- one piece, those inside it and those behind it
piece_area : (items : List Item) (at : Area) (first : Bool) (node size : ℕ) (sort : Sort) (inner later : Forest) → KeepsSides items (family_at at first node size sort inner later) → All (Contains (ids_of items)) (numbers sort inner later) →
    (area_cut (type_number sort) (row_at at node size sort) + sum_by (area_with items) (items_in inner ++ items_in later) ≡ sum_by (area_with items) (numbers sort inner later))
    × All (Contains (ids_of items)) (items_in inner ++ items_in later)
piece_area items at first node size (Sort.Item number) inner later sides known =
    let has = All-head (Contains (ids_of items)) number (items_in inner ++ items_in later) known in (
      omega (arith, item_area items number (row_at at node size (Sort.Item number)) sides has, sum_by-cons (area_with items) number (items_in inner ++ items_in later)),
      All-tail (Contains (ids_of items)) number (items_in inner ++ items_in later) known,
    )
piece_area items at first node size Sort.Waste inner later sides known = (omega arith, known)
piece_area items at first node size Sort.Branch inner later sides known = (omega arith, known)
piece_area items at first node size Sort.Residual inner later sides known = (omega arith, known)

-- the item pieces of a tree have the areas of the items that it cuts
cut_area : (items : List Item) (at : Area) (first : Bool) (node : ℕ) (forest : Forest) → All (KeepsSides items) (families at first node forest) → All (Contains (ids_of items)) (items_in forest) →
    cut_of (rows_at at first node forest) ≡ sum_by (area_with items) (items_in forest)
cut_area items at first node nothing sides known = ap cut_of (rows_nothing at first node nothing refl)
cut_area items at first node (piece size sort inner later) sides known =
    let h = hold_of (KeepsSides items) at first node size sort inner later sides in
    let f : Family = family_at at first node size sort inner later in
    let here = piece_area items at first node size sort inner later h.here known in
    let both = All-both (Contains (ids_of items)) (items_in inner) (items_in later) here.1 in
    omega (
      arith,
      here.0,
      ap cut_of (rows_piece at first node size sort inner later),
      cut_of-append (rows_below at first node size sort inner later) (rows_after at node size inner later),
      cut_area items (inside f) true (node + 1) inner h.below both.0,
      cut_area items (behind at size) false (node + 1 + count inner) later h.after both.1,
      sum_by-append (area_with items) (items_in inner) (items_in later),
    )

-- the item pieces of a plan that cuts each item once, with its sides, have the area of all items
pub served_area : (items : List Item) (b : Problem) (plan : Forest) → AllPairs DifferentIds items → All (KeepsSides items) (families_of b plan) → CutsEachOnce items (cut_order (rows_of b plan)) →
    cut_of (rows_of b plan) ≡ area_of items
served_area items b plan apart sides h =
    let cut : CutsEachOnce items (items_in (on_plates b plan)) = subst (CutsEachOnce items) (rows_cut b plan ∙ sym (sized_cut b 0 plan)) h in
    cut_area items (first_plate b) true 0 (on_plates b plan) sides cut.known ∙ order_area items (items_in (on_plates b plan)) apart cut
