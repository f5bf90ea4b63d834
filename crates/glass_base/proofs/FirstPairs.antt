-- The first two items that break a rule: a test finds the earlier one among those before the later one.
use Rattle.std.proofs.Common.{◌≡◌, ℕ, ◌+◌, ◌<◌, Bool, true, false, cond, List, length, take, get_or, Some, None, AllPairs, nat_lt, refl, sym, arith, length-take-le}
use Rattle.std.specs.Prelude.{position}
use Rattle.std.specs.List.{position_or_len}
use Rattle.std.proofs.lemmas.Bool.Decides.{nat_tests}
use Rattle.std.proofs.lemmas.List.{get_or-take, take_more}
use Rattle.std.proofs.lemmas.List.Quantifiers.{all_pairs_push, position-Some}
use Rattle.std.proofs.lemmas.List.Sums.{fails_before_first}
use Rattle.glass_base.specs.Items.{IsFirstPair}
use Rattle.glass_base.specs.declared.item.Item.{Item}

-- a test passes exactly for the items that break the rule with this one
pub record Tells (Rule : Item → Item → Type 0) (later : Item) (test : Item → Bool) : Type 0 where
  pub breaks : (item : Item) → test item ≡ true → ¬ Rule item later
  pub keeps : (item : Item) → test item ≡ false → Rule item later

-- an item at places that there are not
pub any_item : Item
any_item = record { id = 0; length = 0; width = 0; stack = 0; sequence = 0 }

-- where no place is found the test fails for all
all_fail : {X : Type 0} (test : X → Bool) (xs : List X) (k : ℕ) (d : X) → None ≡ position test xs → k < length xs → test (get_or xs k d) ≡ false
all_fail test xs k d none lt = fails_before_first test xs k d (by (nat_lt (position_or_len test xs) (length xs)) refl none)
  where
    by : (within : Bool) → nat_lt (position_or_len test xs) (length xs) ≡ within → None ≡ cond within (Some (position_or_len test xs)) None → k < position_or_len test xs
    by true e h = cc
    by false e h = grind (arith, nat_tests)

pub first_pair : (Rule : Item → Item → Type 0) (items : List Item) (i j : ℕ) (test : Item → Bool) →
    ((d : Item) → Tells Rule (get_or items j d) test) → j < length items → AllPairs Rule (take j items) →
    Some i ≡ position test (take j items) → IsFirstPair Rule items i j
first_pair Rule items i j test tells lt before found = record {
  ordered = within;
  inside = lt;
  broken = λ d. (tells d).breaks (get_or items i d) (rw (get_or-take j items i d within) at ((at d).1));
  before = before;
  least = λ k d less.
      let sooner : k < j = omega (arith, within, less) in
      (tells d).keeps (get_or items k d) (rw (get_or-take j items k d sooner) at ((at d).2 k less));
}
  where
    at : (d : Item) → (i < length (take j items)) × (test (get_or (take j items) i d) ≡ true) × ((k : ℕ) → k < i → test (get_or (take j items) k d) ≡ false)
    at d = position-Some test (take j items) i d (sym found)

    within : i < j
    within = omega (arith, (at any_item).0, length-take-le j items (omega arith))

pub no_pair_yet : (Rule : Item → Item → Type 0) (items : List Item) (j : ℕ) (test : Item → Bool) →
    ((d : Item) → Tells Rule (get_or items j d) test) → j < length items → AllPairs Rule (take j items) →
    None ≡ position test (take j items) → AllPairs Rule (take (j + 1) items)
no_pair_yet Rule items j test tells lt before none =
    rw (take_more items j any_item lt)
    (all_pairs_push Rule (take j items) (get_or items j any_item) before (λ k d less. (tells any_item).keeps (get_or (take j items) k d) (all_fail test (take j items) k d none less)))
