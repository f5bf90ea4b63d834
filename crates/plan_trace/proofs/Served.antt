-- The items that the steps of a trace draw: each item of the batch once, and those of a stack in ascending sequence.
use Rattle.std.proofs.Common.{◌≡◌, ◌≢◌, ℕ, suc, ◌<◌, ◌≤◌, ◌==◌, true, false, cond, List, [], ◌∷◌, length, map, slice_index_or, get_or, refl, sym, ap, ◌∙◌, subst, arith, inl, inr, Option, Some, All, AllPairs, Contains}
use Rattle.std.specs.Prelude.{position}
use Rattle.std.specs.List.{cons_option, filter_map, list_any, sum_by}
use Rattle.std.proofs.lemmas.Bool.{cases_Bool, cases_lt, cases_order}
use Rattle.std.proofs.lemmas.Bool.Decides.{nat_tests}
use Rattle.std.proofs.lemmas.List.{get_or_default, get_or_past}
use Rattle.std.proofs.lemmas.List.Elements.{All-cons, All-head, All-map, All-nil, All-tail, All-weaker, Contains-get_or}
use Rattle.std.proofs.lemmas.List.Sums.{sum_by-cons}
use Rattle.std.proofs.lemmas.Option.{get_or_from_slice_get, slice_get_within}
use Rattle.glass_base.specs.declared.item.Item.{Item}
use Rattle.glass_base.specs.Items.{DifferentIds}
use Rattle.glass_base.specs.Problem.{Problem, IsProblem, item_at, stack_at}
use Rattle.glass_base.specs.Stacks.{IsStack, stack_numbers, stack_of}
use Rattle.glass_base.proofs.Found.{Distinct, item_found, zip_at}
use Rattle.glass_base.proofs.Pairs.{contained_first, contained_later, contained_map, pairs_cons, pairs_map, pairs_nil}
use Rattle.cut_model.specs.declared.steps.Step.{Step}
use Rattle.cut_model.specs.Families.{rows_of}
use Rattle.cut_model.specs.Lawful.{CutsEachOnce}
use Rattle.cut_model.specs.Order.{cut_order, item_with, items_cut, KeepsStack, KeepsStacks}
use Rattle.loss_area.proofs.Served.{sum_within}
use Rattle.plan_trace.specs.Marks.{Level, NewPlate, Draw, draw_of, drawn, begins, place_of, marks, attach, Spot, spot, spots, Cut, cut, no_cut}
use Rattle.plan_trace.specs.TraceRules.{EachStep, Meets}
use Rattle.plan_trace.specs.Canonical.{canonical}
use Rattle.plan_trace.proofs.CutOrder.{canonical_order, numbers_of}
use Rattle.plan_trace.proofs.Inside.{sizes_of}
use Rattle.plan_trace.proofs.Items.{HasItem, item_place, found_at, items_all}

-- the items of the steps
abbrev pub taken : List Spot → List Item
taken [] = []
taken (spot _ s ∷ later) = cons_option s.item (taken later)

abbrev pub Items : Problem → Level → Cut → List Spot → Type 0
Items b m t later = EachStep (λ _ _ _ s _. HasItem b s.place) m t later

abbrev ids_of : List Item → List ℕ
ids_of items = map (λ item. item.id) items

numbers_are : (b : Problem) (m : Level) (t : Cut) (later : List Spot) → Items b m t later → numbers_of later ≡ ids_of (taken later)
numbers_are b m t [] h = refl
numbers_are b m t (spot l s ∷ later) h = rw h.0.1.is (ap (λ (l : List ℕ). h.0.0.id ∷ l) (numbers_are b l s later h.1))

pub taken_count : (b : Problem) (m : Level) (t : Cut) (later : List Spot) → Items b m t later → length (taken later) ≡ length later
taken_count b m t [] h = refl
taken_count b m t (spot l s ∷ later) h = rw h.0.1.is (omega (arith, taken_count b l s later h.1))

pub taken_known : (b : Problem) (m : Level) (t : Cut) (later : List Spot) → Items b m t later → All (Contains b.items) (taken later)
taken_known b m t [] h = All-nil (Contains b.items)
taken_known b m t (spot l s ∷ later) h = rw h.0.1.is (All-cons (Contains b.items) h.0.0 (taken later) h.0.1.has (taken_known b l s later h.1))

pub spots_count : (b : Problem) (before : List Draw) (t : Cut) (ss : List Step) → length (attach (marks b before t.place (map draw_of ss)) ss) ≡ length ss
spots_count b before t [] = refl
spots_count b before t (s ∷ ss) = omega (arith, spots_count b (draw_of s ∷ before) (cut (place_of b before t.place (draw_of s)) s) ss)

-- a stack's items ascend
ascends : (b : Problem) → IsProblem b → (stack n m : ℕ) (item other : Item) → item_at b stack n ≡ Some item → item_at b stack m ≡ Some other → n < m → item.sequence < other.sequence
ascends b rules stack n m item other is other_is lt =
    let at = item_place b stack n item is in
    let at_other = item_place b stack m other other_is in
    elim (cases_lt stack (length b.stacks)) [
      | inl there ↦
          let h = (zip_at (IsStack b.items) (stack_numbers b.items) b.stacks stack 0 [] rules.stacks.each there).1 in
          let rise = h.ascending item n m 0 lt (slice_get_within (stack_at b stack) m at_other.0 at_other.1) in
          let low = get_or_from_slice_get (stack_at b stack) n at.0 0 at.1 in
          let high = get_or_from_slice_get (stack_at b stack) m at_other.0 0 at_other.1 in
          let mine = get_or_from_slice_get b.items at.0 item item at.2 in
          let its = get_or_from_slice_get b.items at_other.0 other item at_other.2 in
          rw (low, high, mine, its) at rise
      | inr past ↦
          let none : stack_at b stack ≡ [] = get_or_past b.stacks stack [] past in
          absurd (omega (arith, slice_get_within (stack_at b stack) n at.0 at.1, ap length none))
    ]

drawn_more : (d : Draw) (before : List Draw) (stack : ℕ) → drawn before stack ≤ drawn (d ∷ before) stack
drawn_more d before stack = elim (d.stack == stack) as (λ same. drawn before stack ≤ cond same (suc (drawn before stack)) (drawn before stack)) [ true ↦ omega arith | false ↦ omega arith ]

drawn_own : (d : Draw) (before : List Draw) → drawn before d.stack < drawn (d ∷ before) d.stack
drawn_own d before = let same : (d.stack == d.stack) ≡ true = grind (arith, nat_tests) in rw same (omega arith)

-- two items of one stack are drawn from one stack
same_stack : (b : Problem) (item other : Item) (stack next : ℕ) → stack_of b.items item ≡ Some stack → stack_of b.items other ≡ Some next → item.stack ≡ other.stack → stack ≡ next
same_stack b item other stack next is other_is same =
    let e : Some stack ≡ Some next = sym is ∙ ap (λ (n : ℕ). position (λ number. number == n) (stack_numbers b.items)) same ∙ other_is in
    cc

-- what is drawn later from an item's stack follows it
later_taken : (b : Problem) → IsProblem b → (before : List Draw) (m : Level) (t : Cut) (ss : List Step) → Items b m t (attach (marks b before t.place (map draw_of ss)) ss) →
    (stack n : ℕ) (item : Item) → item_at b stack n ≡ Some item → n < drawn before stack → All (KeepsStack item) (taken (attach (marks b before t.place (map draw_of ss)) ss))
later_taken b rules before m t [] h stack n item is lt = All-nil (KeepsStack item)
later_taken b rules before m t (s ∷ ss) h stack n item is lt =
    let here : Cut = cut (place_of b before t.place (draw_of s)) s in
    let rest : List Spot = attach (marks b (draw_of s ∷ before) here.place (map draw_of ss)) ss in
    let follows : KeepsStack item h.0.0 = λ same.
    (let e : stack ≡ s.stack = same_stack b item h.0.0 stack s.stack (found_at b rules stack n item is).1 h.0.1.stack same in
    ascends b rules stack n (drawn before stack) item h.0.0 is (rw e h.0.1.is) lt) in
    subst (λ (o : Option Item). All (KeepsStack item) (cons_option o (taken rest))) (sym h.0.1.is)
    (All-cons (KeepsStack item) h.0.0 (taken rest) follows
    (later_taken b rules (draw_of s ∷ before) (begins before s.kind) here ss h.1 stack n item is (omega (arith, lt, drawn_more (draw_of s) before stack))))

pub taken_kept : (b : Problem) → IsProblem b → (before : List Draw) (m : Level) (t : Cut) (ss : List Step) → Items b m t (attach (marks b before t.place (map draw_of ss)) ss) →
    KeepsStacks (taken (attach (marks b before t.place (map draw_of ss)) ss))
taken_kept b rules before m t [] h = pairs_nil KeepsStack
taken_kept b rules before m t (s ∷ ss) h =
    let here : Cut = cut (place_of b before t.place (draw_of s)) s in
    let rest : List Spot = attach (marks b (draw_of s ∷ before) here.place (map draw_of ss)) ss in
    subst (λ (o : Option Item). KeepsStacks (cons_option o (taken rest))) (sym h.0.1.is)
    (pairs_cons KeepsStack h.0.0 (taken rest)
    (later_taken b rules (draw_of s ∷ before) (begins before s.kind) here ss h.1 s.stack (drawn before s.stack) h.0.0 h.0.1.is (drawn_own (draw_of s) before))
    (taken_kept b rules (draw_of s ∷ before) (begins before s.kind) here ss h.1))

-- two items of the batch with one number are one item
same_item : (items : List Item) (a c : Item) → AllPairs DifferentIds items → Contains items a → Contains items c → a.id ≡ c.id → a ≡ c
same_item items a c ids at_a at_c same =
    let c_is : slice_index_or items at_c.0 a ≡ c = get_or_default items at_c.0 a c at_c.1 ∙ at_c.2 in
    let a_id : (slice_index_or items at_a.0 a).id ≡ a.id = ap (λ (t : Item). t.id) at_a.2 in
    let c_id : (slice_index_or items at_c.0 a).id ≡ c.id = ap (λ (t : Item). t.id) c_is in
    elim (cases_order at_a.0 at_c.0) [
      | inl e ↦ sym at_a.2 ∙ ap (λ k. slice_index_or items k a) e ∙ c_is
      | inr (inl lt) ↦ absurd (ids at_a.0 at_c.0 a lt at_c.1 (a_id ∙ same ∙ sym c_id))
      | inr (inr gt) ↦ absurd (ids at_c.0 at_a.0 a gt at_a.1 (c_id ∙ sym same ∙ sym a_id))
    ]

-- items of the batch that keep their stacks are different
pub kept_apart : (items xs : List Item) → AllPairs DifferentIds items → All (Contains items) xs → KeepsStacks xs → AllPairs DifferentIds xs
kept_apart items xs ids known kept i j d lt within same =
    let earlier : Item = slice_index_or xs i d in
    let later : Item = slice_index_or xs j d in
    let e : earlier ≡ later = same_item items earlier later ids (known i d (omega (arith, lt, within))) (known j d within) same in
    omega (arith, kept i j d lt within (ap (λ (t : Item). t.stack) e), ap (λ (t : Item). t.sequence) e)

-- different numbers, each among the others, are not more
ones : (xs : List ℕ) → sum_by (λ _. 1) xs ≡ length xs
ones [] = refl
ones (x ∷ xs) = omega (arith, ones xs, sum_by-cons (λ (_ : ℕ). 1) x xs)

pub length_within : (xs ys : List ℕ) → Distinct xs → All (Contains ys) xs → length xs ≤ length ys
length_within xs ys apart within = omega (arith, ones xs, ones ys, sum_within (λ _. 1) xs ys apart within)

seen_holds : (seen : List ℕ) (number : ℕ) → list_any (λ s. s == number) seen ≡ true → Contains seen number
seen_holds [] number e = cc
seen_holds (s ∷ seen) number e =
    elim (cases_Bool (s == number)) [
      | inl is ↦ let same : s ≡ number = grind (arith, nat_tests) in subst (Contains (s ∷ seen)) same (contained_first s seen)
      | inr isnt ↦ contained_later s seen number (seen_holds seen number (rw isnt at e))
    ]

unseen : (seen : List ℕ) (number : ℕ) → list_any (λ s. s == number) seen ≡ false → All (λ s. number ≢ s) seen
unseen [] number e = All-nil (λ s. number ≢ s)
unseen (s ∷ seen) number e =
    elim (cases_Bool (s == number)) [
      | inl is ↦ absurd (grind (arith, nat_tests))
      | inr isnt ↦ All-cons (λ s. number ≢ s) s seen (λ same. grind (arith, nat_tests)) (unseen seen number (rw isnt at e))
    ]

-- as many different numbers as there are, each among them, are all of them
contains_all : (xs ys : List ℕ) → Distinct xs → All (Contains ys) xs → length ys ≤ length xs → All (Contains xs) ys
contains_all xs ys apart within many k d lt =
    let y : ℕ = get_or ys k d in
    elim (cases_Bool (list_any (λ s. s == y) xs)) [
      | inl is ↦ seen_holds xs y is
      | inr isnt ↦
          absurd (omega (
            arith,
            many,
            length_within (y ∷ xs) ys (pairs_cons (λ a b. a ≢ b) y xs (unseen xs y isnt) apart) (All-cons (Contains ys) y xs (Contains-get_or ys k d lt) within),
          ))
    ]

-- items of the batch are found again by their numbers
found_again : (items xs : List Item) → AllPairs DifferentIds items → All (Contains items) xs → filter_map (item_with items) (ids_of xs) ≡ xs
found_again items [] apart h = refl
found_again items (item ∷ xs) apart h =
    let has = All-head (Contains items) item xs h in
    ap (λ (o : Option Item). cons_option o (filter_map (item_with items) (ids_of xs))) (item_found items has.0 item apart has.1 has.2)
    ∙ ap (λ (l : List Item). item ∷ l) (found_again items xs apart (All-tail (Contains items) item xs h))

pub ids_count : (items : List Item) → length (ids_of items) ≡ length items
ids_count [] = refl
ids_count (item ∷ items) = omega (arith, ids_count items)

-- the canonical plan cuts each item of the batch once and nothing else
pub canonical_each_once : (b : Problem) → IsProblem b → (ss : List Step) → Meets b ss → length ss ≡ length b.items → CutsEachOnce b.items (cut_order (rows_of b (canonical b ss)))
canonical_each_once b rules ss m many =
    let h = items_all b rules [] NewPlate no_cut ss (sizes_of b NewPlate no_cut (spots b ss) m) in
    let xs : List Item = taken (spots b ss) in
    let known = taken_known b NewPlate no_cut (spots b ss) h in
    let apart = kept_apart b.items xs rules.ids known (taken_kept b rules [] NewPlate no_cut ss h) in
    let distinct : Distinct (ids_of xs) = pairs_map (λ a c. a ≢ c) (λ (item : Item). item.id) xs apart in
    let within : All (Contains (ids_of b.items)) (ids_of xs) =
    All-map (Contains (ids_of b.items)) (λ (item : Item). item.id) xs
    (All-weaker (Contains b.items) (λ (item : Item). Contains (ids_of b.items) item.id) (λ item has. contained_map (λ (t : Item). t.id) b.items item has) xs known) in
    rw (canonical_order b ss m ∙ numbers_are b NewPlate no_cut (spots b ss) h) (record {
      known = within;
      once = distinct;
      all = contains_all (ids_of xs) (ids_of b.items) distinct within (omega (arith, many, ids_count b.items, ids_count xs, taken_count b NewPlate no_cut (spots b ss) h, spots_count b [] no_cut ss));
    })

-- and those of one stack in ascending sequence
pub canonical_stacks : (b : Problem) → IsProblem b → (ss : List Step) → Meets b ss → KeepsStacks (items_cut b.items (rows_of b (canonical b ss)))
canonical_stacks b rules ss m =
    let h = items_all b rules [] NewPlate no_cut ss (sizes_of b NewPlate no_cut (spots b ss) m) in
    let xs : List Item = taken (spots b ss) in
    let cut : items_cut b.items (rows_of b (canonical b ss)) ≡ xs =
    ap (filter_map (item_with b.items)) (canonical_order b ss m ∙ numbers_are b NewPlate no_cut (spots b ss) h) ∙ found_again b.items xs rules.ids (taken_known b NewPlate no_cut (spots b ss) h) in
    subst KeepsStacks (sym cut) (taken_kept b rules [] NewPlate no_cut ss h)
