-- The items on some plates, and those that are left.
use Rattle.std.proofs.Common.{◌≡◌, ◌≢◌, ℕ, ◌+◌, ◌*◌, ◌==◌, ◌⊎◌, inl, inr, List, [], ◌∷◌, ◌++◌, map, get_or, Bool, true, false, refl, sym, subst, ◌∙◌, arith, IfSome, All, Contains, eqb-true, eq-eqb}
use Rattle.std.specs.List.{filter_map, list_any}
use Rattle.std.proofs.lemmas.Bool.{cases_Bool, false≢true}
use Rattle.std.proofs.lemmas.List.Elements.{All-append, All-contains, All-weaker, Contains-append_cases, Contains-append_left, Contains-append_right, Contains-get_or, filter_map-append}
use Rattle.std.proofs.lemmas.List.Sums.{sum_by-cons}
use Rattle.glass_base.proofs.Pairs.{contained_cases, contained_first, contained_later, pairs_append}
use Rattle.glass_base.specs.Items.{area_of}
use Rattle.glass_base.specs.declared.item.Item.{Item}
use Rattle.cut_model.specs.Lawful.{CutsEachOnce}
use Rattle.cut_model.specs.Order.{KeepsStack, KeepsStacks, item_with}
use Rattle.loss_area.proofs.Areas.{All-both}
use Rattle.plan_freeze.specs.Rests.{items_among, items_besides}
use Rattle.plan_freeze.proofs.Lists.{all_found, found_alike, found_all, pairs_apart}

abbrev pub ids : List Item → List ℕ
ids items = map (λ item. item.id) items

-- whether a number is one of these
abbrev pub has : List ℕ → ℕ → Bool
has numbers n = list_any (λ number. number == n) numbers

has_contains : (numbers : List ℕ) (n : ℕ) → has numbers n ≡ true → Contains numbers n
has_contains [] n e = absurd (false≢true e)
has_contains (m ∷ numbers) n e = elim (cases_Bool (m == n)) [
  | inl is ↦ subst (λ (z : ℕ). Contains (m ∷ numbers) z) (eqb-true m n is) (contained_first m numbers)
  | inr isnt ↦ contained_later m numbers n (has_contains numbers n (rw isnt at e))
]

contains_has : (numbers : List ℕ) (n : ℕ) → Contains numbers n → has numbers n ≡ true
contains_has [] n h = absurd (omega (arith, h.1))
contains_has (m ∷ numbers) n h = elim (cases_Bool (m == n)) [
  | inl is ↦ rw is refl
  | inr isnt ↦ elim (contained_cases m numbers n h) [
    | inl e ↦ absurd (false≢true (sym isnt ∙ eq-eqb m n e))
    | inr later ↦ rw isnt (contains_has numbers n later)
  ]
]

pub not_has : (numbers : List ℕ) (n : ℕ) → ¬ Contains numbers n → has numbers n ≡ false
not_has numbers n none = elim (cases_Bool (has numbers n)) [ inl is ↦ absurd (none (has_contains numbers n is)) | inr isnt ↦ isnt ]

-- a number is one of these or none
pub one_or_none : (numbers : List ℕ) (n : ℕ) → Contains numbers n ⊎ (¬ Contains numbers n)
one_or_none numbers n = elim (cases_Bool (has numbers n)) [
  | inl is ↦ inl (has_contains numbers n is)
  | inr isnt ↦ inr (λ h. false≢true (sym isnt ∙ contains_has numbers n h))
]

-- the items that are left are items of the batch, with none of the numbers
pub left_known : (numbers : List ℕ) (items : List Item) (n : ℕ) → Contains (ids (items_besides numbers items)) n → Contains (ids items) n × (¬ Contains numbers n)
left_known numbers [] n h = absurd (omega (arith, h.1))
left_known numbers (item ∷ items) n h = elim (cases_Bool (has numbers item.id)) [
  | inl is ↦
      let rest = left_known numbers items n (rw is at h) in
      (contained_later item.id (ids items) n rest.0, rest.1)
  | inr isnt ↦ elim (contained_cases item.id (ids (items_besides numbers items)) n (rw isnt at h)) [
    | inl e ↦ (
      subst (λ (z : ℕ). Contains (ids (item ∷ items)) z) e (contained_first item.id (ids items)),
      subst (λ (z : ℕ). ¬ Contains numbers z) e (λ found. false≢true (sym isnt ∙ contains_has numbers item.id found)),
    )
    | inr later ↦
        let rest = left_known numbers items n later in
        (contained_later item.id (ids items) n rest.0, rest.1)
  ]
]

-- and all of these are left
pub known_left : (numbers : List ℕ) (items : List Item) (n : ℕ) → Contains (ids items) n → ¬ Contains numbers n → Contains (ids (items_besides numbers items)) n
known_left numbers [] n h none = absurd (omega (arith, h.1))
known_left numbers (item ∷ items) n h none = elim (cases_Bool (has numbers item.id)) [
  | inl is ↦ elim (contained_cases item.id (ids items) n h) [
    | inl e ↦ absurd (none (subst (λ (z : ℕ). Contains numbers z) e (has_contains numbers item.id is)))
    | inr later ↦ rw is (known_left numbers items n later none)
  ]
  | inr isnt ↦ elim (contained_cases item.id (ids items) n h) [
    | inl e ↦ rw isnt (subst (λ (z : ℕ). Contains (item.id ∷ ids (items_besides numbers items)) z) e (contained_first item.id (ids (items_besides numbers items))))
    | inr later ↦ rw isnt (contained_later item.id (ids (items_besides numbers items)) n (known_left numbers items n later none))
  ]
]

-- an item that is left is found as before
pub found_left : (numbers : List ℕ) (items : List Item) (n : ℕ) → ¬ Contains numbers n → item_with (items_besides numbers items) n ≡ item_with items n
found_left numbers [] n none = refl
found_left numbers (item ∷ items) n none = elim (cases_Bool (item.id == n)) [
  | inl is ↦
      let isnt : has numbers item.id ≡ false = not_has numbers item.id (subst (λ (z : ℕ). ¬ Contains numbers z) (sym (eqb-true item.id n is)) none) in
      rw (isnt, is) refl
  | inr other ↦ elim (cases_Bool (has numbers item.id)) [
    | inl is ↦ rw (is, other) (found_left numbers items n none)
    | inr isnt ↦ rw (isnt, other) (found_left numbers items n none)
  ]
]

-- together they have the area of all
pub areas_apart : (numbers : List ℕ) (items : List Item) → area_of (items_among numbers items) + area_of (items_besides numbers items) ≡ area_of items
areas_apart numbers [] = refl
areas_apart numbers (item ∷ items) =
    let area : Item → ℕ = λ (t : Item). t.length * t.width in
    elim (cases_Bool (has numbers item.id)) [
      | inl is ↦ rw is (omega (arith, areas_apart numbers items, sum_by-cons area item (items_among numbers items), sum_by-cons area item items))
      | inr isnt ↦ rw isnt (omega (arith, areas_apart numbers items, sum_by-cons area item (items_besides numbers items), sum_by-cons area item items))
    ]

-- numbers behind others, all of them different, are none of the others
apart : (first later : List ℕ) → All (λ a. All (λ c. a ≢ c) later) first → (n : ℕ) → Contains later n → ¬ Contains first n
apart first later h n behind before = All-contains (λ c. n ≢ c) later n (All-contains (λ a. All (λ c. a ≢ c) later) first n h before) behind refl

-- where all items are cut once, those behind the first ones are cut once
pub once_left : (items : List Item) (first later : List ℕ) → CutsEachOnce items (first ++ later) → CutsEachOnce (items_besides first items) later
once_left items first later h =
    let pairs = pairs_apart (λ a c. a ≢ c) first later h.once in
    let known = All-both (Contains (ids items)) first later h.known in
    record {
      known = λ i d lt. known_left first items (get_or later i d) (known.1 i d lt) (apart first later pairs.2 (get_or later i d) (Contains-get_or later i d lt));
      once = pairs.1;
      all = λ i d lt.
          let n : ℕ = get_or (ids (items_besides first items)) i d in
          let here = left_known first items n (Contains-get_or (ids (items_besides first items)) i d lt) in
          elim (Contains-append_cases first later n (All-contains (Contains (first ++ later)) (ids items) n h.all here.0)) [
            | inl before ↦ absurd (here.1 before)
            | inr behind ↦ behind
          ];
    }

-- where the others are cut once behind them, all items are cut once
pub once_whole : (items : List Item) (first old later : List ℕ) → CutsEachOnce items (first ++ old) → CutsEachOnce (items_besides first items) later → CutsEachOnce items (first ++ later)
once_whole items first old later g h =
    let left : List Item = items_besides first items in
    let pairs = pairs_apart (λ a c. a ≢ c) first old g.once in
    let known = All-both (Contains (ids items)) first old g.known in
    record {
      known = All-append (Contains (ids items)) first later known.0 (All-weaker (Contains (ids left)) (Contains (ids items)) (λ n is. (left_known first items n is).0) later h.known);
      once = pairs_append (λ a c. a ≢ c) first later pairs.0 h.once
          (λ i d lt j e within same.
          (left_known first items (get_or later j e) (h.known j e within)).1 (subst (λ (z : ℕ). Contains first z) same (Contains-get_or first i d lt)));
      all = λ i d lt.
          let n : ℕ = get_or (ids items) i d in
          elim (one_or_none first n) [
            | inl before ↦ Contains-append_left first later n before
            | inr none ↦ Contains-append_right first later n (All-contains (Contains later) (ids left) n h.all (known_left first items n (Contains-get_or (ids items) i d lt) none))
          ];
    }

-- no number behind the first ones is one of them
pub none_again : (items : List Item) (first later : List ℕ) → CutsEachOnce (items_besides first items) later → All (λ n. ¬ Contains first n) later
none_again items first later h i d lt = (left_known first items (get_or later i d) (h.known i d lt)).1

-- the items of these numbers are found as before
same_items : (items : List Item) (first later : List ℕ) → CutsEachOnce (items_besides first items) later → filter_map (item_with (items_besides first items)) later ≡ filter_map (item_with items) later
same_items items first later h =
    found_alike (item_with (items_besides first items)) (item_with items) later
    (All-weaker (λ n. ¬ Contains first n) (λ n. item_with (items_besides first items) n ≡ item_with items n) (found_left first items) later (none_again items first later h))

-- where all stacks are in order, those of the items behind the first ones are
pub stacks_left : (items : List Item) (first later : List ℕ) → CutsEachOnce (items_besides first items) later → KeepsStacks (filter_map (item_with items) (first ++ later)) →
    KeepsStacks (filter_map (item_with (items_besides first items)) later)
stacks_left items first later h keeps =
    let split : KeepsStacks (filter_map (item_with items) first ++ filter_map (item_with items) later) = subst KeepsStacks (filter_map-append (item_with items) first later) keeps in
    subst KeepsStacks (sym (same_items items first later h)) (pairs_apart KeepsStack (filter_map (item_with items) first) (filter_map (item_with items) later) split).1

-- where the others are in order behind them, all are
pub stacks_whole : (items : List Item) (first old later : List ℕ) → CutsEachOnce items (first ++ old) → CutsEachOnce (items_besides first items) later →
    KeepsStacks (filter_map (item_with items) (first ++ old)) → KeepsStacks (filter_map (item_with (items_besides first items)) later) →
    KeepsStacks (filter_map (item_with items) (first ++ later))
stacks_whole items first old later g h keeps rest =
    let found : List ℕ → List Item = filter_map (item_with items) in
    let split : KeepsStacks (found first ++ found old) = subst KeepsStacks (filter_map-append (item_with items) first old) keeps in
    let pairs = pairs_apart KeepsStack (found first) (found old) split in
    let across : All (λ a. All (KeepsStack a) (found later)) (found first) =
    All-weaker (λ a. All (KeepsStack a) (found old)) (λ a. All (KeepsStack a) (found later))
    (λ a each. all_found (item_with items) (KeepsStack a) later
    (λ i d lt.
    let n : ℕ = get_or later i d in
    let here = left_known first items n (h.known i d lt) in
    elim (Contains-append_cases first old n (All-contains (Contains (first ++ old)) (ids items) n g.all here.0)) [
      | inl before ↦ absurd (here.1 before)
      | inr behind ↦ All-contains (λ m. IfSome (item_with items m) (KeepsStack a)) old n (found_all (item_with items) (KeepsStack a) old each) behind
    ]))
    (found first) pairs.2 in
    subst KeepsStacks (sym (filter_map-append (item_with items) first later))
    (pairs_append KeepsStack (found first) (found later) pairs.0 (subst KeepsStacks (same_items items first later h) rest) across)
