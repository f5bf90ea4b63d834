-- The items that are gathered stack by stack: each item of the batch once, and those of a stack in ascending sequence.
use Rattle.std.proofs.Common.{◌≡◌, ◌≢◌, ℕ, ◌<◌, List, [], ◌∷◌, slice_index_or, refl, sym, ap, ◌∙◌, subst, arith, inl, inr, Option, Some, None, All, AllPairs, Contains}
use Rattle.std.specs.Prelude.{slice_get}
use Rattle.std.specs.List.{AllZip, cons_option, filter_map, flat_map}
use Rattle.std.proofs.lemmas.List.Elements.{All-get_or, All-append, All-cons, All-contains, All-contains_itself, All-head, All-nil, All-tail, Contains-append_left, Contains-append_right, Contains-get_or}
use Rattle.std.proofs.lemmas.Option.{slice_get_within, slice_get-get_or, get_or_from_slice_get}
use Rattle.glass_base.specs.declared.item.Item.{Item}
use Rattle.glass_base.specs.Stacks.{IsStack, stack_numbers}
use Rattle.glass_base.specs.Problem.{Problem, IsProblem}
use Rattle.glass_base.proofs.Found.{Distinct, numbers_distinct}
use Rattle.cut_model.specs.Order.{KeepsStack, KeepsStacks}
use Rattle.plan_trace.proofs.Serving.{fold_notes}
use Rattle.glass_base.proofs.Pairs.{contained_cases, contained_first, contained_later, pairs_append, pairs_cons, pairs_head, pairs_nil, pairs_tail}

stack_keeps : (P : Item → Type 0) (all : List Item) (positions : List ℕ) → All P all → All P (filter_map (slice_get all) positions)
stack_keeps P all [] h = All-nil P
stack_keeps P all (k ∷ positions) h = by (slice_get all k) refl (stack_keeps P all positions h)
  where
    by : (o : Option Item) → slice_get all k ≡ o → All P (filter_map (slice_get all) positions) → All P (cons_option o (filter_map (slice_get all) positions))
    by None e rest = rest
    by (Some item) e rest = All-cons P item (filter_map (slice_get all) positions) (subst P (get_or_from_slice_get all k item item e) (All-get_or P all k item (slice_get_within all k item e) h)) rest

-- what holds of each item of the batch holds of those gathered
stacks_keep : (P : Item → Type 0) (all : List Item) (stacks : List (List ℕ)) → All P all → All P (flat_map (filter_map (slice_get all)) stacks)
stacks_keep P all [] h = All-nil P
stacks_keep P all (positions ∷ stacks) h =
    All-append P (filter_map (slice_get all) positions) (flat_map (filter_map (slice_get all)) stacks) (stack_keeps P all positions h) (stacks_keep P all stacks h)

abbrev pub picked : List Item → List ℕ → List Item
picked items places = filter_map (slice_get items) places

abbrev pub gathered : List Item → List (List ℕ) → List Item
gathered items stacks = flat_map (picked items) stacks

-- the items of the stacks by their numbers, those of each stack in ascending sequence
abbrev pub by_stacks : Problem → List Item
by_stacks b = gathered b.items b.stacks

-- what holds of the item at each of the places holds of those picked
picked_all : (P : Item → Type 0) (items : List Item) (places : List ℕ) → All (λ k. (item : Item) → slice_get items k ≡ Some item → P item) places → All P (picked items places)
picked_all P items [] h = All-nil P
picked_all P items (k ∷ places) h = by (slice_get items k) refl (picked_all P items places (All-tail Q k places h))
  where
    Q : ℕ → Type 0
    Q j = (item : Item) → slice_get items j ≡ Some item → P item

    by : (o : Option Item) → slice_get items k ≡ o → All P (picked items places) → All P (cons_option o (picked items places))
    by None e rest = rest
    by (Some item) e rest = All-cons P item (picked items places) (All-head Q k places h item e) rest

abbrev Ascends : List Item → List ℕ → Type 0
Ascends items places = (d : Item) → AllPairs (λ a c. (slice_index_or items a d).sequence < (slice_index_or items c d).sequence) places

ascends : (items : List Item) (k j : ℕ) (item other : Item) → (slice_index_or items k item).sequence < (slice_index_or items j item).sequence → slice_get items k ≡ Some item → slice_get items j ≡ Some other → item.sequence < other.sequence
ascends items k j item other lt is other_is =
    omega (arith, lt, ap (λ (i : Item). i.sequence) (get_or_from_slice_get items k item item is), ap (λ (i : Item). i.sequence) (get_or_from_slice_get items j other item other_is))

-- the items of one stack
picked_kept : (items : List Item) (places : List ℕ) → Ascends items places → KeepsStacks (picked items places)
picked_kept items [] h = pairs_nil KeepsStack
picked_kept items (k ∷ places) h =
    by (slice_get items k) refl (picked_kept items places (λ d. pairs_tail (λ a c. (slice_index_or items a d).sequence < (slice_index_or items c d).sequence) k places (h d)))
  where
    by : (o : Option Item) → slice_get items k ≡ o → KeepsStacks (picked items places) → KeepsStacks (cons_option o (picked items places))
    by None e rest = rest
    by (Some item) e rest =
        pairs_cons KeepsStack item (picked items places)
        (picked_all (KeepsStack item) items places
        (λ i d lt other is same.
        ascends items k (slice_index_or places i d) item other
        (pairs_head (λ a c. (slice_index_or items a item).sequence < (slice_index_or items c item).sequence) k places (h item) i d lt) e is))
        rest

picked_of : (P : Item → Type 0) (items : List Item) (number : ℕ) (places : List ℕ) → IsStack items number places → ((item : Item) → item.stack ≡ number → P item) → All P (picked items places)
picked_of P items number places h each =
    picked_all P items places
    (λ i d lt item is.
    each item (ap (λ (t : Item). t.stack) (sym (get_or_from_slice_get items (slice_index_or places i d) item item is)) ∙ ((h.members (slice_index_or places i d) item).0 (Contains-get_or places i d lt)).1))

-- what holds of the items of these stacks holds of those gathered
gathered_all : (P : Item → Type 0) (items : List Item) (numbers : List ℕ) (stacks : List (List ℕ)) → AllZip (IsStack items) numbers stacks →
    ((number : ℕ) → Contains numbers number → (item : Item) → item.stack ≡ number → P item) → All P (gathered items stacks)
gathered_all P items [] [] h each = All-nil P
gathered_all P items [] (places ∷ stacks) h each = absurd h
gathered_all P items (number ∷ numbers) [] h each = absurd h
gathered_all P items (number ∷ numbers) (places ∷ stacks) h each =
    All-append P (picked items places) (gathered items stacks)
    (picked_of P items number places h.0 (each number (contained_first number numbers)))
    (gathered_all P items numbers stacks h.1 (λ other has. each other (contained_later number numbers other has)))

-- the items of stacks with different numbers
gathered_kept : (items : List Item) (numbers : List ℕ) (stacks : List (List ℕ)) → Distinct numbers → AllZip (IsStack items) numbers stacks → KeepsStacks (gathered items stacks)
gathered_kept items [] [] apart h = pairs_nil KeepsStack
gathered_kept items [] (places ∷ stacks) apart h = absurd h
gathered_kept items (number ∷ numbers) [] apart h = absurd h
gathered_kept items (number ∷ numbers) (places ∷ stacks) apart h =
    pairs_append KeepsStack (picked items places) (gathered items stacks) (picked_kept items places h.0.ascending) (gathered_kept items numbers stacks (pairs_tail (λ a c. a ≢ c) number numbers apart) h.1)
    (picked_of (λ earlier. All (KeepsStack earlier) (gathered items stacks)) items number places h.0
    (λ earlier mine.
    gathered_all (KeepsStack earlier) items numbers stacks h.1
    (λ other has later is same. absurd (All-contains (λ n. number ≢ n) numbers other (pairs_head (λ a c. a ≢ c) number numbers apart) has (sym mine ∙ same ∙ is)))))

-- an item is gathered where its place is
picked_has : (items : List Item) (places : List ℕ) (k : ℕ) (item : Item) → slice_get items k ≡ Some item → Contains places k → Contains (picked items places) item
picked_has items [] k item is h = absurd (omega (arith, h.1))
picked_has items (j ∷ places) k item is h =
    elim (contained_cases j places k h) [
      | inl e ↦ rw (e, is) (contained_first item (picked items places))
      | inr later ↦ by (slice_get items j) (picked_has items places k item is later)
    ]
  where
    by : (o : Option Item) → Contains (picked items places) item → Contains (cons_option o (picked items places)) item
    by None has = has
    by (Some other) has = contained_later other (picked items places) item has

gathered_has : (items : List Item) (numbers : List ℕ) (stacks : List (List ℕ)) (k : ℕ) (item : Item) → AllZip (IsStack items) numbers stacks → slice_get items k ≡ Some item → Contains numbers item.stack → Contains (gathered items stacks) item
gathered_has items [] stacks k item h is has = absurd (omega (arith, has.1))
gathered_has items (number ∷ numbers) [] k item h is has = absurd h
gathered_has items (number ∷ numbers) (places ∷ stacks) k item h is has =
    elim (contained_cases number numbers item.stack has) [
      | inl e ↦
          let inside = slice_get_within items k item is in
          let mine = ap (λ (t : Item). t.stack) (get_or_from_slice_get items k item item is) ∙ sym e in
          Contains-append_left (picked items places) (gathered items stacks) item (picked_has items places k item is ((h.0.members k item).1 (inside, mine)))
      | inr later ↦ Contains-append_right (picked items places) (gathered items stacks) item (gathered_has items numbers stacks k item h.1 is later)
    ]

-- the items that the draft takes are those of the batch, in an order that keeps the stacks
pub record AreGathered (b : Problem) : Type 0 where
  pub known : All (Contains b.items) (by_stacks b)
  pub all : All (Contains (by_stacks b)) b.items
  pub kept : KeepsStacks (by_stacks b)

pub are_gathered : (b : Problem) → IsProblem b → AreGathered b
are_gathered b rules = record {
  known = stacks_keep (Contains b.items) b.items b.stacks (All-contains_itself b.items);
  all = λ k d lt.
      gathered_has b.items (stack_numbers b.items) b.stacks k (slice_index_or b.items k d) rules.stacks.each (slice_get-get_or b.items k d lt) (fold_notes [] b.items k d lt);
  kept = gathered_kept b.items (stack_numbers b.items) b.stacks (numbers_distinct b.items) rules.stacks.each;
}
