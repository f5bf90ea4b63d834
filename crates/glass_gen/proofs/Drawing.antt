-- What is drawn, one behind the other, and that it makes an instance.
use Rattle.std.proofs.Common.{◌≡◌, ℕ, zero, suc, ◌+◌, ◌*◌, ◌<◌, ◌≤◌, [], ◌∷◌, ◌++◌, length, get_or, refl, ap, ◌∙◌, arith, All, AllPairs}
use Rattle.std.proofs.lemmas.List.FromFn.{length-map-range_with_len, get_or-map-range_with_len, map-range_with_len_more}
use Rattle.glass_base.specs.BadInstance.{MakesInstance}
use Rattle.glass_base.specs.Items.{DifferentIds, DifferentPlaces, HasSides, IsDefectInRange, IsItemInRange}
use Rattle.glass_base.specs.declared.item.Defect.{Defect}
use Rattle.glass_base.specs.declared.item.Item.{Item}
use Rattle.glass_gen.specs.Draws.{drawn, next_state, number_of, state_after}
use Rattle.glass_gen.specs.Drawn.{defect_from, defects_drawn, item_from, items_drawn}
use Rattle.glass_base.specs.declared.limits.TheConstants.{MOST_DEFECTS, MOST_ITEMS}

-- draws behind draws
pub state_after-add : (x m n : ℕ) → state_after (state_after x m) n ≡ state_after x (m + n)
unfolding state_after
state_after-add x m zero = ap (state_after x) (omega arith)
state_after-add x m (suc n) =
    let e : suc (m + n) ≡ m + suc n = omega arith in
    ap next_state (state_after-add x m n) ∙ ap (state_after x) e

-- one item more takes three draws more
pub items-state : (x k : ℕ) → state_after (state_after x (3 * k)) 3 ≡ state_after x (3 * (k + 1))
items-state x k = state_after-add x (3 * k) 3 ∙ ap (state_after x) (omega arith)

-- one defect more takes five draws more
pub defects-state : (x k : ℕ) → state_after (state_after x (5 * k)) 5 ≡ state_after x (5 * (k + 1))
defects-state x k = state_after-add x (5 * k) 5 ∙ ap (state_after x) (omega arith)

pub items_drawn_more : (x stacks k : ℕ) → items_drawn x stacks (k + 1) ≡ items_drawn x stacks k ++ item_from (state_after x (3 * k)) stacks k ∷ []
items_drawn_more x stacks k = map-range_with_len_more (λ i. item_from (state_after x (3 * i)) stacks i) 0 k k (omega arith)

pub defects_drawn_more : (x k : ℕ) → defects_drawn x (k + 1) ≡ defects_drawn x k ++ defect_from (state_after x (5 * k)) ∷ []
defects_drawn_more x k = map-range_with_len_more (λ i. defect_from (state_after x (5 * i))) 0 k k (omega arith)

drawn_below : (x k n : ℕ) → 0 < n → drawn x k n < n
unfolding drawn number_of
drawn_below x k n some = omega arith

pub length-items_drawn : (x stacks n : ℕ) → length (items_drawn x stacks n) ≡ n
length-items_drawn x stacks n = length-map-range_with_len (λ k. item_from (state_after x (3 * k)) stacks k) 0 n

pub length-defects_drawn : (x n : ℕ) → length (defects_drawn x n) ≡ n
length-defects_drawn x n = length-map-range_with_len (λ k. defect_from (state_after x (5 * k))) 0 n

item_at : (x stacks n k : ℕ) (d : Item) → k < n → get_or (items_drawn x stacks n) k d ≡ item_from (state_after x (3 * k)) stacks k
item_at x stacks n k d h = get_or-map-range_with_len (λ i. item_from (state_after x (3 * i)) stacks i) 0 n k k d h (omega arith)

defect_at : (x n k : ℕ) (d : Defect) → k < n → get_or (defects_drawn x n) k d ≡ defect_from (state_after x (5 * k))
defect_at x n k d h = get_or-map-range_with_len (λ i. defect_from (state_after x (5 * i))) 0 n k k d h (omega arith)

item_from-range : (x stacks k : ℕ) → 0 < stacks → stacks ≤ 41 → k < MOST_ITEMS → IsItemInRange (item_from x stacks k)
unfolding item_from
item_from-range x stacks k some few h =
    let a = drawn_below x 1 1300 (omega arith) in
    let b = drawn_below x 2 850 (omega arith) in
    let c = drawn_below x 3 stacks some in
    (omega arith, omega arith, omega arith, omega arith, omega arith)

defect_from-range : (x : ℕ) → IsDefectInRange (defect_from x)
unfolding defect_from
defect_from-range x =
    let a = drawn_below x 2 5900 (omega arith) in
    let b = drawn_below x 3 3100 (omega arith) in
    let c = drawn_below x 4 20 (omega arith) in
    let d = drawn_below x 5 20 (omega arith) in
    (omega arith, omega arith, omega arith, omega arith)

pub items_in_range : (x stacks n : ℕ) → 0 < stacks → stacks ≤ 41 → n ≤ MOST_ITEMS → All IsItemInRange (items_drawn x stacks n)
items_in_range x stacks n some few h k d k_in =
    let in_list : k < n = omega (arith, k_in, length-items_drawn x stacks n) in
    rw (item_at x stacks n k d in_list) (item_from-range (state_after x (3 * k)) stacks k some few (omega arith))

pub defects_in_range : (x n : ℕ) → All IsDefectInRange (defects_drawn x n)
defects_in_range x n k d k_in =
    let in_list : k < n = omega (arith, k_in, length-defects_drawn x n) in
    rw (defect_at x n k d in_list) (defect_from-range (state_after x (5 * k)))

item_from-sides : (x stacks k : ℕ) → HasSides (item_from x stacks k)
unfolding item_from
item_from-sides x stacks k = (omega arith, omega arith)

item_from-id : (x stacks k : ℕ) → (item_from x stacks k).id ≡ k
unfolding item_from
item_from-id x stacks k = refl

item_from-sequence : (x stacks k : ℕ) → (item_from x stacks k).sequence ≡ k
unfolding item_from
item_from-sequence x stacks k = refl

drawn_sides : (x stacks n : ℕ) → All HasSides (items_drawn x stacks n)
drawn_sides x stacks n k d k_in =
    let in_list : k < n = omega (arith, k_in, length-items_drawn x stacks n) in
    rw (item_at x stacks n k d in_list) (item_from-sides (state_after x (3 * k)) stacks k)

drawn_ids : (x stacks n : ℕ) → AllPairs DifferentIds (items_drawn x stacks n)
drawn_ids x stacks n i j d before j_in =
    let later : j < n = omega (arith, j_in, length-items_drawn x stacks n) in
    let earlier : i < n = omega arith in
    rw (item_at x stacks n i d earlier, item_at x stacks n j d later)
    (λ same. omega (arith, same, before, item_from-id (state_after x (3 * i)) stacks i, item_from-id (state_after x (3 * j)) stacks j))

drawn_sequences : (x stacks n : ℕ) → AllPairs DifferentPlaces (items_drawn x stacks n)
drawn_sequences x stacks n i j d before j_in =
    let later : j < n = omega (arith, j_in, length-items_drawn x stacks n) in
    let earlier : i < n = omega arith in
    rw (item_at x stacks n i d earlier, item_at x stacks n j d later)
    (λ _ same. omega (arith, same, before, item_from-sequence (state_after x (3 * i)) stacks i, item_from-sequence (state_after x (3 * j)) stacks j))

-- what is drawn keeps the rules of an instance
pub drawn_makes : (x y stacks items defects : ℕ) → 1 ≤ items → items ≤ MOST_ITEMS → defects ≤ MOST_DEFECTS → MakesInstance (items_drawn x stacks items) (defects_drawn y defects)
drawn_makes x y stacks items defects some few_items few_defects = record {
  counted = record {
    some = omega (arith, length-items_drawn x stacks items);
    few_items = omega (arith, length-items_drawn x stacks items);
    few_defects = omega (arith, length-defects_drawn y defects);
  };
  ids = drawn_ids x stacks items;
  sequences = drawn_sequences x stacks items;
  sides = drawn_sides x stacks items;
}
