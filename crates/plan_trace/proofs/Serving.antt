-- A plan that keeps the order of each stack cuts at each item the next one of its stack.
use Rattle.std.proofs.Common.{◌≡◌, ℕ, zero, suc, ◌<◌, ◌≤◌, ◌==◌, inl, inr, Bool, true, false, cond, List, [], ◌∷◌, ◌++◌, length, map, drop, get_or, slice_index_or, refl, sym, ap, ◌∙◌, subst, arith, Option, Some, IfSome, All, AllPairs, Contains, fold}
use Rattle.std.specs.Prelude.{slice_get, filter, option_and_then}
use Rattle.std.specs.List.{AllZip, cons_option, filter_map, list_any}
use Rattle.std.proofs.lemmas.Bool.{cases_Bool, cases_eq, cases_order}
use Rattle.std.proofs.lemmas.Bool.Decides.{nat_tests}
use Rattle.std.proofs.lemmas.List.{get_or_default}
use Rattle.std.proofs.lemmas.List.Elements.{All-cons, All-contains, All-head, All-nil, All-tail, Contains-append_left, Contains-get_or, Contains-push}
use Rattle.std.proofs.lemmas.Option.{slice_get_within, slice_get-get_or, slice_get_cases, get_or_from_slice_get}
use Rattle.glass_base.specs.declared.item.Item.{Item}
use Rattle.glass_base.specs.Items.{HasSides}
use Rattle.glass_base.specs.Problem.{Problem, IsProblem, item_at, stack_at}
use Rattle.glass_base.specs.Stacks.{IsStack, note_stack, stack_numbers}
use Rattle.glass_base.proofs.Found.{IsFound, item_found, items_found, numbers_distinct, zip_at}
use Rattle.glass_base.proofs.Pairs.{contained_cases, contained_first, contained_later, contained_map, pairs_cons, pairs_head, pairs_nil, pairs_tail}
use Rattle.cut_model.specs.Lawful.{CutsEachOnce}
use Rattle.cut_model.specs.Order.{KeepsStack, KeepsStacks, item_with}
use Rattle.plan_trace.specs.Marks.{Draw, drawn}
use Rattle.plan_trace.proofs.Placing.{Due}

-- the front of what is left of a list
drop_first : {X : Type 0} (xs : List X) (k : ℕ) (y : X) (ys : List X) → drop k xs ≡ y ∷ ys → slice_get xs k ≡ Some y
drop_first [] zero y ys e = cc
drop_first [] (suc k) y ys e = cc
drop_first (x ∷ xs) zero y ys e = cc
drop_first (x ∷ xs) (suc k) y ys e = drop_first xs k y ys e

drop_rest : {X : Type 0} (xs : List X) (k : ℕ) (y : X) (ys : List X) → drop k xs ≡ y ∷ ys → drop (suc k) xs ≡ ys
drop_rest [] zero y ys e = cc
drop_rest [] (suc k) y ys e = cc
drop_rest (x ∷ xs) zero y ys e = cc
drop_rest (x ∷ xs) (suc k) y ys e = drop_rest xs k y ys e

-- the first of two items has the lower sequence
abbrev Below : Item → Item → Type 0
Below earlier later = earlier.sequence < later.sequence

-- two ascending lists of the same items are one list
within_tail : (x : Item) (xs ys : List Item) → All (Below x) xs → All (Contains (x ∷ ys)) xs → All (Contains ys) xs
within_tail x xs ys up within k d lt =
    elim (contained_cases x ys (slice_index_or xs k d) (within k d lt)) [
      | inl e ↦ absurd (omega (arith, up k d lt, ap (λ (i : Item). i.sequence) e))
      | inr later ↦ later
    ]

ascending_same : (xs ys : List Item) → AllPairs Below xs → AllPairs Below ys → All (Contains ys) xs → All (Contains xs) ys → xs ≡ ys
ascending_same [] [] up up' within within' = refl
ascending_same [] (y ∷ ys) up up' within within' = absurd (omega (arith, (All-head (Contains {X = Item} []) y ys within').1))
ascending_same (x ∷ xs) [] up up' within within' = absurd (omega (arith, (All-head (Contains {X = Item} []) x xs within).1))
ascending_same (x ∷ xs) (y ∷ ys) up up' within within' =
    let same : x ≡ y = elim (contained_cases y ys x (All-head (Contains (y ∷ ys)) x xs within)) [
      | inl e ↦ sym e
      | inr later ↦ elim (contained_cases x xs y (All-head (Contains (x ∷ xs)) y ys within')) [
        | inl e ↦ e
        | inr later' ↦ absurd (omega (arith, All-contains (Below y) ys x (pairs_head Below y ys up') later, All-contains (Below x) xs y (pairs_head Below x xs up) later'))
      ]
    ] in
    let up_ys : All (Below x) ys = subst (λ (i : Item). All (Below i) ys) (sym same) (pairs_head Below y ys up') in
    let within_xs : All (Contains (x ∷ ys)) xs = subst (λ (i : Item). All (Contains (i ∷ ys)) xs) (sym same) (All-tail (Contains (y ∷ ys)) x xs within) in
    let rest : xs ≡ ys = ascending_same xs ys (pairs_tail Below x xs up) (pairs_tail Below y ys up')
    (within_tail x xs ys (pairs_head Below x xs up) within_xs) (within_tail x ys xs up_ys (All-tail (Contains (x ∷ xs)) y ys within')) in
    cc

-- the items of one stack among those that are cut
abbrev of_stack : ℕ → List Item → List Item
of_stack number items = filter (λ item. item.stack == number) items

of_stack_is : (number : ℕ) (item : Item) (items : List Item) → item.stack ≡ number → of_stack number (item ∷ items) ≡ item ∷ of_stack number items
of_stack_is number item items is =
    let test : (item.stack == number) ≡ true = grind (arith, nat_tests) in rw test refl

of_stack_not : (number : ℕ) (item : Item) (items : List Item) → (item.stack ≡ number → ⊥) → of_stack number (item ∷ items) ≡ of_stack number items
of_stack_not number item items isnt =
    let test : (item.stack == number) ≡ false = grind (arith, nat_tests) in rw test refl

-- what holds of an item of the stack among the items, and of nothing else, holds of those of the stack
of_stack_all : (P : Item → Type 0) (number : ℕ) (items : List Item) → All (λ item. item.stack ≡ number → P item) items → All P (of_stack number items)
of_stack_all P number [] h = All-nil P
of_stack_all P number (item ∷ items) h =
    let Q : Item → Type 0 = λ (i : Item). i.stack ≡ number → P i in
    elim (cases_eq item.stack number) [
      | inl is ↦ subst (All P) (sym (of_stack_is number item items is)) (All-cons P item (of_stack number items) (All-head Q item items h is) (of_stack_all P number items (All-tail Q item items h)))
      | inr isnt ↦ subst (All P) (sym (of_stack_not number item items isnt)) (of_stack_all P number items (All-tail Q item items h))
    ]

-- they ascend
of_stack_ascends : (number : ℕ) (items : List Item) → KeepsStacks items → AllPairs Below (of_stack number items)
of_stack_ascends number [] h = pairs_nil Below
of_stack_ascends number (item ∷ items) h =
    let rest : AllPairs Below (of_stack number items) = of_stack_ascends number items (pairs_tail KeepsStack item items h) in
    elim (cases_eq item.stack number) [
      | inl is ↦ subst (AllPairs Below) (sym (of_stack_is number item items is))
          (pairs_cons Below item (of_stack number items)
          (of_stack_all (Below item) number items (λ k d lt mine. pairs_head KeepsStack item items h k d lt (is ∙ sym mine))) rest)
      | inr isnt ↦ subst (AllPairs Below) (sym (of_stack_not number item items isnt)) rest
    ]

of_stack_has : (number : ℕ) (items : List Item) (item : Item) → Contains items item → item.stack ≡ number → Contains (of_stack number items) item
of_stack_has number [] item has is = absurd (omega (arith, has.1))
of_stack_has number (other ∷ items) item has is =
    elim (contained_cases other items item has) [
      | inl e ↦ subst (λ (xs : List Item). Contains xs item) (sym (of_stack_is number other items (ap (λ (i : Item). i.stack) e ∙ is)))
          (subst (λ (i : Item). Contains (i ∷ of_stack number items) item) (sym e) (contained_first item (of_stack number items)))
      | inr later ↦ elim (cases_eq other.stack number) [
        | inl mine ↦ subst (λ (xs : List Item). Contains xs item) (sym (of_stack_is number other items mine)) (contained_later other (of_stack number items) item (of_stack_has number items item later is))
        | inr isnt ↦ subst (λ (xs : List Item). Contains xs item) (sym (of_stack_not number other items isnt)) (of_stack_has number items item later is)
      ]
    ]

-- the items at these positions
abbrev picked : List Item → List ℕ → List Item
picked items places = filter_map (slice_get items) places

-- where each position is one of the items
abbrev AreInside : List Item → List ℕ → Type 0
AreInside items places = All (λ k. k < length items) places

-- a position inside has an item
item_there : (items : List Item) (k : ℕ) → k < length items → (item : Item) × (slice_get items k ≡ Some item)
item_there items k lt =
    elim (slice_get_cases items k).1 [
      | inl found ↦ (found.0, found.2)
      | inr past ↦ absurd (omega (arith, lt, past.0))
    ]

picked_is : (items : List Item) (k : ℕ) (places : List ℕ) (item : Item) → slice_get items k ≡ Some item → picked items (k ∷ places) ≡ item ∷ picked items places
picked_is items k places item is = ap (λ (o : Option Item). cons_option o (picked items places)) is

picked_at : (items : List Item) (places : List ℕ) (i : ℕ) → AreInside items places → slice_get (picked items places) i ≡ option_and_then (λ k. slice_get items k) (slice_get places i)
picked_at items [] i inside = refl
picked_at items (k ∷ places) zero inside =
    let here = item_there items k (All-head (λ j. j < length items) k places inside) in
    ap (λ (xs : List Item). slice_get xs 0) (picked_is items k places here.0 here.1) ∙ sym here.1
picked_at items (k ∷ places) (suc i) inside =
    let here = item_there items k (All-head (λ j. j < length items) k places inside) in
    ap (λ (xs : List Item). slice_get xs (suc i)) (picked_is items k places here.0 here.1) ∙ picked_at items places i (All-tail (λ j. j < length items) k places inside)

-- what holds of the item at each of the positions holds of those picked
picked_all : (P : Item → Type 0) (items : List Item) (places : List ℕ) → AreInside items places → All (λ k. (item : Item) → slice_get items k ≡ Some item → P item) places → All P (picked items places)
picked_all P items [] inside h = All-nil P
picked_all P items (k ∷ places) inside h =
    let Q : ℕ → Type 0 = λ (j : ℕ). (item : Item) → slice_get items j ≡ Some item → P item in
    let here = item_there items k (All-head (λ j. j < length items) k places inside) in
    subst (All P) (sym (picked_is items k places here.0 here.1))
    (All-cons P here.0 (picked items places) (All-head Q k places h here.0 here.1) (picked_all P items places (All-tail (λ j. j < length items) k places inside) (All-tail Q k places h)))

abbrev Ascends : List Item → List ℕ → Type 0
Ascends items places = (d : Item) → AllPairs (λ a c. (slice_index_or items a d).sequence < (slice_index_or items c d).sequence) places

picked_ascends : (items : List Item) (places : List ℕ) → AreInside items places → Ascends items places → AllPairs Below (picked items places)
picked_ascends items [] inside h = pairs_nil Below
picked_ascends items (k ∷ places) inside h =
    let here = item_there items k (All-head (λ j. j < length items) k places inside) in
    let rest : AreInside items places = All-tail (λ j. j < length items) k places inside in
    subst (AllPairs Below) (sym (picked_is items k places here.0 here.1))
    (pairs_cons Below here.0 (picked items places)
    (picked_all (Below here.0) items places rest
    (λ i d lt other is.
    let order : (slice_index_or items k here.0).sequence < (slice_index_or items (slice_index_or places i d) here.0).sequence =
    pairs_head (λ a c. (slice_index_or items a here.0).sequence < (slice_index_or items c here.0).sequence) k places (h here.0) i d lt in
    omega (
      arith,
      order,
      ap (λ (t : Item). t.sequence) (get_or_from_slice_get items k here.0 here.0 here.1),
      ap (λ (t : Item). t.sequence) (get_or_from_slice_get items (slice_index_or places i d) other here.0 is),
    )))
    (picked_ascends items places rest (λ d. pairs_tail (λ a c. (slice_index_or items a d).sequence < (slice_index_or items c d).sequence) k places (h d))))

picked_has : (items : List Item) (places : List ℕ) (k : ℕ) (item : Item) → AreInside items places → slice_get items k ≡ Some item → Contains places k → Contains (picked items places) item
picked_has items [] k item inside is has = absurd (omega (arith, has.1))
picked_has items (j ∷ places) k item inside is has =
    let here = item_there items j (All-head (λ i. i < length items) j places inside) in
    subst (λ (xs : List Item). Contains xs item) (sym (picked_is items j places here.0 here.1))
    (elim (contained_cases j places k has) [
      | inl e ↦
          let same : here.0 ≡ item = let both : Some here.0 ≡ Some item = sym here.1 ∙ ap (slice_get items) e ∙ is in cc in
          subst (λ (i : Item). Contains (i ∷ picked items places) item) (sym same) (contained_first item (picked items places))
      | inr later ↦ contained_later here.0 (picked items places) item (picked_has items places k item (All-tail (λ i. i < length items) j places inside) is later)
    ])

-- the stack of an item has a number
seen_holds : (seen : List ℕ) (number : ℕ) → list_any (λ s. s == number) seen ≡ true → Contains seen number
seen_holds [] number e = cc
seen_holds (s ∷ seen) number e =
    elim (cases_Bool (s == number)) [
      | inl is ↦ let same : s ≡ number = grind (arith, nat_tests) in subst (Contains (s ∷ seen)) same (contained_first s seen)
      | inr isnt ↦ contained_later s seen number (seen_holds seen number (rw isnt at e))
    ]

note_new : (seen : List ℕ) (item : Item) → Contains (note_stack seen item) item.stack
note_new seen item = by (list_any (λ s. s == item.stack) seen) refl
  where
    by : (b : Bool) → list_any (λ s. s == item.stack) seen ≡ b → Contains (cond b seen (seen ++ item.stack ∷ [])) item.stack
    by true e = seen_holds seen item.stack e
    by false e = Contains-push seen item.stack

note_holds : (seen : List ℕ) (item : Item) (number : ℕ) → Contains seen number → Contains (note_stack seen item) number
note_holds seen item number h = by (list_any (λ s. s == item.stack) seen)
  where
    by : (b : Bool) → Contains (cond b seen (seen ++ item.stack ∷ [])) number
    by true = h
    by false = Contains-append_left seen (item.stack ∷ []) number h

fold_holds : (seen : List ℕ) (items : List Item) (number : ℕ) → Contains seen number → Contains (fold note_stack seen items) number
fold_holds seen [] number h = h
fold_holds seen (item ∷ items) number h = fold_holds (note_stack seen item) items number (note_holds seen item number h)

-- each item's stack has a number
pub fold_notes : (seen : List ℕ) (items : List Item) → All (λ item. Contains (fold note_stack seen items) item.stack) items
fold_notes seen [] = All-nil (λ item. Contains seen item.stack)
fold_notes seen (item ∷ items) =
    All-cons (λ (t : Item). Contains (fold note_stack (note_stack seen item) items) t.stack) item items
    (fold_holds (note_stack seen item) items item.stack (note_new seen item))
    (fold_notes (note_stack seen item) items)

-- a known number names an item of the batch
named : (items : List Item) (number : ℕ) → Contains (map (λ item. item.id) items) number → (item : Item) × (item_with items number ≡ Some item) × Contains items item
named [] number has = absurd (omega (arith, has.1))
named (item ∷ items) number has =
    elim (cases_eq item.id number) [
      | inl is ↦ let test : (item.id == number) ≡ true = grind (arith, nat_tests) in (item, rw test refl, contained_first item items)
      | inr isnt ↦
          let test : (item.id == number) ≡ false = grind (arith, nat_tests) in
          elim (contained_cases item.id (map (λ (t : Item). t.id) items) number has) [
            | inl e ↦ absurd (isnt e)
            | inr later ↦ let rest = named items number later in (rest.0, rw test rest.1, contained_later item items rest.0 rest.2)
          ]
    ]

abbrev ids_of : List Item → List ℕ
ids_of items = map (λ item. item.id) items

-- the items of these numbers
abbrev cut_items : List Item → List ℕ → List Item
cut_items items order = filter_map (item_with items) order

cut_next : (items : List Item) (number : ℕ) (order : List ℕ) (item : Item) → item_with items number ≡ Some item → cut_items items (number ∷ order) ≡ item ∷ cut_items items order
cut_next items number order item is = ap (λ (o : Option Item). cons_option o (cut_items items order)) is

-- what holds of each item of the batch holds of those that are cut
cut_all : (P : Item → Type 0) (items : List Item) (order : List ℕ) → All (Contains (ids_of items)) order → ((item : Item) → Contains items item → P item) → All P (cut_items items order)
cut_all P items [] known each = All-nil P
cut_all P items (number ∷ order) known each =
    let here = named items number (All-head (Contains (ids_of items)) number order known) in
    subst (All P) (sym (cut_next items number order here.0 here.1))
    (All-cons P here.0 (cut_items items order) (each here.0 here.2) (cut_all P items order (All-tail (Contains (ids_of items)) number order known) each))

-- an item is cut where its number is
cut_has : (items : List Item) (order : List ℕ) (item : Item) → All (Contains (ids_of items)) order → item_with items item.id ≡ Some item → Contains order item.id → Contains (cut_items items order) item
cut_has items [] item known found has = absurd (omega (arith, has.1))
cut_has items (number ∷ order) item known found has =
    let here = named items number (All-head (Contains (ids_of items)) number order known) in
    subst (λ (xs : List Item). Contains xs item) (sym (cut_next items number order here.0 here.1))
    (elim (contained_cases number order item.id has) [
      | inl e ↦
          let same : here.0 ≡ item = let both : Some here.0 ≡ Some item = sym here.1 ∙ ap (item_with items) e ∙ found in cc in
          subst (λ (i : Item). Contains (i ∷ cut_items items order) item) (sym same) (contained_first item (cut_items items order))
      | inr later ↦ contained_later here.0 (cut_items items order) item (cut_has items order item (All-tail (Contains (ids_of items)) number order known) found later)
    ])

pub zip_long : {A B : Type 0} (R : A → B → Type 0) (xs : List A) (ys : List B) → AllZip R xs ys → length xs ≡ length ys
zip_long R [] [] h = refl
zip_long R (x ∷ xs) (y ∷ ys) h = ap suc (zip_long R xs ys h.1)
zip_long R [] (y ∷ ys) h = absurd h
zip_long R (x ∷ xs) [] h = absurd h

-- the number in the batch of a stack
abbrev number_of : Problem → ℕ → ℕ
number_of b stack = get_or (stack_numbers b.items) stack 0

stack_is : (b : Problem) → IsProblem b → (stack : ℕ) → stack < length (stack_numbers b.items) → IsStack b.items (number_of b stack) (stack_at b stack)
stack_is b rules stack lt = (zip_at (IsStack b.items) (stack_numbers b.items) b.stacks stack 0 [] rules.stacks.each (omega (arith, lt, zip_long (IsStack b.items) (stack_numbers b.items) b.stacks rules.stacks.each))).1

abbrev stack_items : Problem → ℕ → List Item
stack_items b stack = picked b.items (stack_at b stack)

-- the items of the batch are found by their numbers
found_again : (b : Problem) → IsProblem b → (item : Item) → Contains b.items item → item_with b.items item.id ≡ Some item
found_again b rules item has = item_found b.items has.0 item rules.ids has.1 has.2

-- of each stack the items are cut in the order of the stack
stack_served : (b : Problem) → IsProblem b → (order : List ℕ) → CutsEachOnce b.items order → KeepsStacks (cut_items b.items order) → (stack : ℕ) → stack < length (stack_numbers b.items) →
    stack_items b stack ≡ of_stack (number_of b stack) (cut_items b.items order)
stack_served b rules order once keeps stack lt =
    let number : ℕ = number_of b stack in
    let places : List ℕ = stack_at b stack in
    let is : IsStack b.items number places = stack_is b rules stack lt in
    let d : Item = (named_first b.items rules.some).0 in
    let inside : AreInside b.items places = λ i e within. ((is.members (slice_index_or places i e) d).0 (Contains-get_or places i e within)).0 in
    let cut : List Item = cut_items b.items order in
    ascending_same (stack_items b stack) (of_stack number cut)
    (picked_ascends b.items places inside is.ascending)
    (of_stack_ascends number cut keeps)
    (picked_all (Contains (of_stack number cut)) b.items places inside (λ i e within item there.
    let k : ℕ = slice_index_or places i e in
    let item_is : get_or b.items k item ≡ item = get_or_from_slice_get b.items k item item there in
    let lt' : k < length b.items = slice_get_within b.items k item there in
    let has : Contains b.items item = (k, lt', item_is) in
    let mine : item.stack ≡ number = ap (λ (t : Item). t.stack) (sym item_is) ∙ ((is.members k item).0 (Contains-get_or places i e within)).1 in
    of_stack_has number cut item
    (cut_has b.items order item once.known (found_again b rules item has) (All-contains (Contains order) (ids_of b.items) item.id once.all (contained_map (λ (t : Item). t.id) b.items item has))) mine))
    (of_stack_all (Contains (stack_items b stack)) number cut
    (cut_all (λ item. item.stack ≡ number → Contains (stack_items b stack) item) b.items order once.known
    (λ item has mine.
    let there : slice_get b.items has.0 ≡ Some item = slice_get-get_or b.items has.0 item has.1 ∙ ap Some has.2 in
    picked_has b.items places has.0 item inside there ((is.members has.0 item).1 (has.1, ap (λ (t : Item). t.stack) has.2 ∙ mine)))))
  where
    named_first : (items : List Item) → 1 ≤ length items → (item : Item) × (slice_get items 0 ≡ Some item)
    named_first items some = item_there items 0 (omega (arith, some))

-- of each stack the items that are still to be cut are those that are not drawn
abbrev Left : Problem → List Draw → List Item → Type 0
Left b before items = (stack : ℕ) → stack < length (stack_numbers b.items) → drop (drawn before stack) (stack_items b stack) ≡ of_stack (number_of b stack) items

-- the stack of an item that is cut
stack_known : (b : Problem) (item : Item) → Contains b.items item → (stack : ℕ) × (stack < length (stack_numbers b.items)) × (number_of b stack ≡ item.stack)
stack_known b item has =
    let h : Contains (stack_numbers b.items) item.stack = All-contains (λ (t : Item). Contains (stack_numbers b.items) t.stack) b.items item (fold_notes [] b.items) has in
    (h.0, h.1, get_or_default (stack_numbers b.items) h.0 0 item.stack h.1 ∙ h.2)

-- no two stacks have one number
numbers_apart : (b : Problem) (stack other : ℕ) → stack < length (stack_numbers b.items) → other < length (stack_numbers b.items) → number_of b stack ≡ number_of b other → stack ≡ other
numbers_apart b stack other lt lt' same =
    elim (cases_order stack other) [
      | inl e ↦ e
      | inr (inl less) ↦ absurd (numbers_distinct b.items stack other 0 less lt' same)
      | inr (inr more) ↦ absurd (numbers_distinct b.items other stack 0 more lt (sym same))
    ]

-- an item that is cut is drawn from its stack
left_after : (b : Problem) (before : List Draw) (item : Item) (items : List Item) (stack turn kind lift : ℕ) → stack < length (stack_numbers b.items) → number_of b stack ≡ item.stack → Left b before (item ∷ items) →
    Left b (record { stack = stack; turn = turn; kind = kind; lift = lift } ∷ before) items
left_after b before item items stack turn kind lift lt mine left other within =
    elim (cases_eq stack other) [
      | inl same ↦
          let test : (stack == other) ≡ true = grind (arith, nat_tests) in
          let is : item.stack ≡ number_of b other = sym mine ∙ ap (number_of b) same in
          rw test (drop_rest (stack_items b other) (drawn before other) item (of_stack (number_of b other) items) (left other within ∙ of_stack_is (number_of b other) item items is))
      | inr differ ↦
          let test : (stack == other) ≡ false = grind (arith, nat_tests) in
          let isnt : item.stack ≡ number_of b other → ⊥ = λ e. differ (numbers_apart b stack other lt within (mine ∙ e)) in
          rw test (left other within ∙ of_stack_not (number_of b other) item items isnt)
    ]

-- the items that are left are due
due_left : (b : Problem) → IsProblem b → (before : List Draw) (order : List ℕ) → All (Contains (ids_of b.items)) order → Left b before (cut_items b.items order) → Due b before order
due_left b rules before [] known left = tt
due_left b rules before (number ∷ order) known left =
    let here = named b.items number (All-head (Contains (ids_of b.items)) number order known) in
    let item : Item = here.0 in
    let stack = stack_known b item here.2 in
    let next : Left b before (item ∷ cut_items b.items order) = subst (Left b before) (cut_next b.items number order item here.1) left in
    let front : drop (drawn before stack.0) (stack_items b stack.0) ≡ item ∷ of_stack (number_of b stack.0) (cut_items b.items order) =
    next stack.0 stack.1 ∙ of_stack_is (number_of b stack.0) item (cut_items b.items order) (sym stack.2) in
    let is : IsStack b.items (number_of b stack.0) (stack_at b stack.0) = stack_is b rules stack.0 stack.1 in
    let inside : AreInside b.items (stack_at b stack.0) = λ i e within. ((is.members (slice_index_or (stack_at b stack.0) i e) item).0 (Contains-get_or (stack_at b stack.0) i e within)).0 in
    let there : item_at b stack.0 (drawn before stack.0) ≡ Some item =
    sym (picked_at b.items (stack_at b stack.0) (drawn before stack.0) inside) ∙ drop_first (stack_items b stack.0) (drawn before stack.0) item _ front in
    let found : IsFound b stack.0 item = subst (λ (o : Option Item). IfSome o (IsFound b stack.0)) there (items_found b rules stack.0 (drawn before stack.0)) in (
      record { item = item; stack = stack.0; found = here.1; mine = found.1; there = there; sides = All-contains HasSides b.items item rules.sides here.2 },
      λ turn kind lift. due_left b rules (record { stack = stack.0; turn = turn; kind = kind; lift = lift } ∷ before) order (All-tail (Contains (ids_of b.items)) number order known)
          (left_after b before item (cut_items b.items order) stack.0 turn kind lift stack.1 stack.2 next),
    )

-- the items of a lawful order are due from the start
pub all_due : (b : Problem) → IsProblem b → (order : List ℕ) → CutsEachOnce b.items order → KeepsStacks (cut_items b.items order) → Due b [] order
all_due b rules order once keeps = due_left b rules [] order once.known (λ stack lt. stack_served b rules order once keeps stack lt)
