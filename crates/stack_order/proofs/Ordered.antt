-- The order of the items of a stack, as a list of cuts grows.
use Rattle.std.proofs.Common.{◌≡◌, ◌≢◌, ℕ, zero, suc, ◌+◌, ◌<◌, ◌≤◌, ◌==◌, List, [], ◌∷◌, ◌++◌, length, get_or, take, drop, reverse, find, refl, sym, ap, subst, ◌∙◌, arith, Option, Some, None, AllPairs, Contains, eqb-true, eq-eqb}
use Rattle.std.specs.List.{cons_option}
use Rattle.std.proofs.lemmas.Option.{slice_get_within, get_or_from_slice_get}
use Rattle.std.proofs.lemmas.List.{take_more, take-append-drop, drop_more, reverse-append, append-nil, get_or_default}
use Rattle.std.proofs.lemmas.List.Elements.{filter_map-append}
use Rattle.std.proofs.lemmas.List.Folds.{find-append}
use Rattle.std.proofs.lemmas.List.Quantifiers.{all_pairs_push}
use Rattle.std.specs.Prelude.{slice_get}
use Rattle.glass_base.proofs.Pairs.{pairs_head, pairs_tail}
use Rattle.glass_base.specs.declared.item.Item.{Item}
use Rattle.glass_base.specs.Items.{DifferentPlaces}
use Rattle.cut_model.specs.Order.{KeepsStack, KeepsStacks}
use Rattle.stack_order.specs.declared.cuts.ItemCut.{ItemCut}
use Rattle.stack_order.specs.Breaches.{items_of, last_of_stack}
use Rattle.stack_order.proofs.Searches.{find_some, contained_reverse, filter_map-reverse, pair_across}
use Rattle.std.specs.Option.{option_or}

-- an item of the stack, and no lower one than a given sequence, is the last of the stack
pub record IsHighest (items : List Item) (stack sequence : ℕ) : Type 0 where
  pub last : Item
  pub last_is : find (λ item. item.stack == stack) (reverse items) ≡ Some last
  pub higher : sequence ≤ last.sequence

-- one more item at the front does not change the last of a stack that was there
last_kept : (x : Item) (items : List Item) (stack : ℕ) → find (λ item. item.stack == stack) (reverse (x ∷ items)) ≡ option_or (find (λ item. item.stack == stack) (reverse items)) (find (λ item. item.stack == stack) (x ∷ []))
last_kept x items stack =
    ap (find (λ (item : Item). item.stack == stack)) (reverse-append (x ∷ []) items) ∙ find-append (λ (item : Item). item.stack == stack) (reverse items) (x ∷ [])

-- where the items keep their stacks, the last of a stack is at least each item of it
pub last_is_highest : (items : List Item) (k : ℕ) (d : Item) → KeepsStacks items → k < length items → IsHighest items (get_or items k d).stack (get_or items k d).sequence
last_is_highest [] k d kept lt = absurd (omega (arith, lt))
last_is_highest (x ∷ items) zero d kept lt = by (find (λ item. item.stack == x.stack) (reverse items)) refl
  where
    by : (o : Option Item) → find (λ item. item.stack == x.stack) (reverse items) ≡ o → IsHighest (x ∷ items) x.stack x.sequence
    by None e = record {
      last = x;
      last_is = last_kept x items x.stack ∙ rw (e, eq-eqb x.stack x.stack refl) refl;
      higher = omega arith;
    }
    by (Some y) e =
        let found = find_some (λ (item : Item). item.stack == x.stack) (reverse items) y e in
        let there = contained_reverse items y found.0 in
        let above : KeepsStack x (get_or items there.0 y) = pairs_head KeepsStack x items kept there.0 y there.1 in
        let below : KeepsStack x y = subst (λ z. KeepsStack x z) there.2 above in
        let lower : x.sequence < y.sequence = below (sym (eqb-true y.stack x.stack found.1)) in
        record {
          last = y;
          last_is = last_kept x items x.stack ∙ rw e refl;
          higher = omega (arith, lower);
        }
last_is_highest (x ∷ items) (suc k) d kept lt =
    let h = last_is_highest items k d (pairs_tail KeepsStack x items kept) (omega (arith, lt)) in
    record {
      last = h.last;
      last_is = last_kept x items (get_or items k d).stack ∙ rw h.last_is refl;
      higher = h.higher;
    }

-- the last of a stack among the cuts is that among their items
pub last_of_items : (stack : ℕ) (cuts : List ItemCut) → last_of_stack stack cuts ≡ find (λ item. item.stack == stack) (reverse (items_of cuts))
last_of_items stack cuts = ap (find (λ (item : Item). item.stack == stack)) (filter_map-reverse (λ (c : ItemCut). c.item) cuts)

-- no item of its stack was cut before that has a higher sequence
abbrev pub InTime : List ItemCut → ItemCut → Type 0
InTime before cut = (item last : Item) → cut.item ≡ Some item → last_of_stack item.stack before ≡ Some last → last.sequence ≤ item.sequence

-- an item that is not too late, and has a place of its own, keeps the stacks
kept_push : (before : List ItemCut) (item : Item) → KeepsStacks (items_of before) → ((earlier : Item) → Contains (items_of before) earlier → DifferentPlaces earlier item) → ((last : Item) → last_of_stack item.stack before ≡ Some last → last.sequence ≤ item.sequence) → KeepsStacks (items_of before ++ item ∷ [])
kept_push before item kept places intime =
    all_pairs_push KeepsStack (items_of before) item kept
    (λ k d lt same.
    let h = last_is_highest (items_of before) k d kept lt in
    let last_is : last_of_stack item.stack before ≡ Some h.last = last_of_items item.stack before ∙ subst (λ (s : ℕ). find (λ (i : Item). i.stack == s) (reverse (items_of before)) ≡ Some h.last) same h.last_is in
    let high : h.last.sequence ≤ item.sequence = intime h.last last_is in
    let differ : (get_or (items_of before) k d).sequence ≢ item.sequence = places (get_or (items_of before) k d) (k, lt, get_or_default (items_of before) k (get_or (items_of before) k d) d lt) same in
    omega (arith, high, h.higher, differ))

-- a cut parts the items into those before it, its own, and those behind it
items_split : (cuts : List ItemCut) (i : ℕ) (cut d : ItemCut) → i < length cuts → cut ≡ get_or cuts i d → items_of cuts ≡ items_of (take i cuts) ++ cons_option cut.item (items_of (drop (i + 1) cuts))
items_split cuts i cut d lt is =
    ap items_of (sym (take-append-drop i cuts) ∙ ap (λ (l : List ItemCut). take i cuts ++ l) (drop_more cuts i d lt ∙ ap (λ (c : ItemCut). c ∷ drop (i + 1) cuts) (sym is)))
    ∙ filter_map-append (λ (c : ItemCut). c.item) (take i cuts) (cut ∷ drop (i + 1) cuts)

-- the items of one more cut
items_more : (cuts : List ItemCut) (i : ℕ) (cut d : ItemCut) → i < length cuts → cut ≡ get_or cuts i d → items_of (take (i + 1) cuts) ≡ items_of (take i cuts) ++ cons_option cut.item []
items_more cuts i cut d lt is =
    ap items_of (take_more cuts i d lt ∙ ap (λ (c : ItemCut). take i cuts ++ c ∷ []) (sym is))
    ∙ filter_map-append (λ (c : ItemCut). c.item) (take i cuts) (cut ∷ [])

-- a cut that is not too late keeps the stacks
pub kept_more : (cuts : List ItemCut) (i : ℕ) (cut d : ItemCut) → i < length cuts → cut ≡ get_or cuts i d → AllPairs DifferentPlaces (items_of cuts) → KeepsStacks (items_of (take i cuts)) → InTime (take i cuts) cut → KeepsStacks (items_of (take (i + 1) cuts))
kept_more cuts i cut d lt is places kept intime =
    subst KeepsStacks (sym (items_more cuts i cut d lt is)) (by cut.item refl (subst (AllPairs DifferentPlaces) (items_split cuts i cut d lt is) places))
  where
    by : (o : Option Item) → cut.item ≡ o → AllPairs DifferentPlaces (items_of (take i cuts) ++ cons_option o (items_of (drop (i + 1) cuts))) → KeepsStacks (items_of (take i cuts) ++ cons_option o [])
    by None e apart = subst KeepsStacks (sym (append-nil (items_of (take i cuts)))) kept
    by (Some item) e apart =
        kept_push (take i cuts) item kept
        (λ earlier has. pair_across DifferentPlaces (items_of (take i cuts)) item (items_of (drop (i + 1) cuts)) earlier apart has)
        (λ last last_is. intime item last e last_is)

-- an item that is too late breaks the order of its stack
pub late_breaks : (cuts : List ItemCut) (i : ℕ) (cut : ItemCut) (item last : Item) → slice_get cuts i ≡ Some cut → cut.item ≡ Some item → last_of_stack item.stack (take i cuts) ≡ Some last → item.sequence < last.sequence → ¬ KeepsStacks (items_of cuts)
late_breaks cuts i cut item last there item_is last_is higher kept =
    let lt : i < length cuts = slice_get_within cuts i cut there in
    let parts : items_of cuts ≡ items_of (take i cuts) ++ cons_option cut.item (items_of (drop (i + 1) cuts)) = items_split cuts i cut cut lt (sym (get_or_from_slice_get cuts i cut cut there)) in
    let pairs : KeepsStacks (items_of (take i cuts) ++ item ∷ items_of (drop (i + 1) cuts)) =
    subst (λ (o : Option Item). KeepsStacks (items_of (take i cuts) ++ cons_option o (items_of (drop (i + 1) cuts)))) item_is (subst KeepsStacks parts kept) in
    let found = find_some (λ (other : Item). other.stack == item.stack) (reverse (items_of (take i cuts))) last (sym (last_of_items item.stack (take i cuts)) ∙ last_is) in
    let ordered : KeepsStack last item = pair_across KeepsStack (items_of (take i cuts)) item (items_of (drop (i + 1) cuts)) last pairs (contained_reverse (items_of (take i cuts)) last found.0) in
    let lower : last.sequence < item.sequence = ordered (eqb-true last.stack item.stack found.1) in
    omega (arith, higher, lower)
