-- Lists are refused for one reason at the most.
use Rattle.std.proofs.Common.{◌≡◌, ◌≢◌, ℕ, ◌<◌, List, All, AllPairs, refl, ap, arith, length-take-le}
use Rattle.std.proofs.lemmas.List.{get_or-take}
use Rattle.glass_base.specs.BadInstance.{MakesInstance, RefusesLists}
use Rattle.glass_base.specs.Items.{DifferentIds, DifferentPlaces, HasSides, IsFirstFlat, IsFirstPair}
use Rattle.glass_base.specs.declared.instance.BadInstance.{BadInstance}
use Rattle.glass_base.specs.declared.instance.BadInstance.TheVariants.{Memory, NoItems, TooMany, DoubleId, DoubleSequence, ZeroItem}
use Rattle.glass_base.specs.declared.item.Defect.{Defect}
use Rattle.glass_base.specs.declared.item.Item.{Item}
use Rattle.glass_base.proofs.FirstPairs.{any_item}

-- a pair that breaks a rule stands among no items that keep it
pair_breaks : (Rule : Item → Item → Type 0) (items : List Item) (i j : ℕ) → IsFirstPair Rule items i j → ¬ AllPairs Rule items
pair_breaks Rule items i j h kept = h.broken any_item (kept i j any_item h.ordered h.inside)

flat_breaks : (items : List Item) (i : ℕ) → IsFirstFlat items i → ¬ All HasSides items
flat_breaks items i h kept = h.flat any_item (kept i any_item h.inside)

-- no first pair ends before another one
not_sooner : (Rule : Item → Item → Type 0) (items : List Item) (i j k l : ℕ) → IsFirstPair Rule items i j → IsFirstPair Rule items k l → ¬ (j < l)
not_sooner Rule items i j k l h later lt =
    h.broken any_item
    (rw (← get_or-take l items i any_item (omega (arith, h.ordered, lt)), ← get_or-take l items j any_item lt)
    (later.before i j any_item h.ordered (omega (arith, lt, later.inside, length-take-le l items (omega (arith, later.inside))))))

-- of two first pairs that end with one item none begins before the other
not_lower : (Rule : Item → Item → Type 0) (items : List Item) (i j k : ℕ) → IsFirstPair Rule items i j → IsFirstPair Rule items k j → ¬ (i < k)
not_lower Rule items i j k h higher lt = h.broken any_item (higher.least i any_item lt)

order : (i j : ℕ) → ¬ (i < j) → ¬ (j < i) → i ≡ j
order i j h k = grind arith

pair_is_one : (Rule : Item → Item → Type 0) (items : List Item) (i j k l : ℕ) → IsFirstPair Rule items i j → IsFirstPair Rule items k l → (i ≡ k) × (j ≡ l)
pair_is_one Rule items i j k l h g =
    let second : j ≡ l = order j l (not_sooner Rule items i j k l h g) (not_sooner Rule items k l i j g h) in
    let same : IsFirstPair Rule items k j = rw second g in
    (order i k (not_lower Rule items i j k h same) (not_lower Rule items k j i same h), second)

flat_not_sooner : (items : List Item) (i k : ℕ) → IsFirstFlat items i → IsFirstFlat items k → ¬ (i < k)
flat_not_sooner items i k h later lt =
    h.flat any_item
    (rw (← get_or-take k items i any_item lt)
    (later.before i any_item (omega (arith, lt, later.inside, length-take-le k items (omega (arith, later.inside))))))

flat_is_one : (items : List Item) (i k : ℕ) → IsFirstFlat items i → IsFirstFlat items k → i ≡ k
flat_is_one items i k h g = order i k (flat_not_sooner items i k h g) (flat_not_sooner items k i g h)

pub refusal_is_one : (items : List Item) (defects : List Defect) (x y : BadInstance) → x ≢ Memory → y ≢ Memory → RefusesLists x items defects → RefusesLists y items defects → x ≡ y
refusal_is_one items defects Memory y p q h k = absurd (p refl)
refusal_is_one items defects x Memory p q h k = absurd (q refl)
refusal_is_one items defects NoItems NoItems p q h k = refl
refusal_is_one items defects (TooMany of count limit) (TooMany other many most) p q h k = grind (arith, h, k)
refusal_is_one items defects (DoubleId i j) (DoubleId k l) p q h g =
    let same = pair_is_one DifferentIds items i j k l h.1 g.1 in cc
refusal_is_one items defects (DoubleSequence i j) (DoubleSequence k l) p q h g =
    let same = pair_is_one DifferentPlaces items i j k l h.2 g.2 in cc
refusal_is_one items defects (ZeroItem i) (ZeroItem k) p q h g = ap ZeroItem (flat_is_one items i k h.3 g.3)
refusal_is_one items defects (DoubleId i j) (DoubleSequence k l) p q h g = absurd (pair_breaks DifferentIds items i j h.1 g.1)
refusal_is_one items defects (DoubleSequence k l) (DoubleId i j) p q h g = absurd (pair_breaks DifferentIds items i j g.1 h.1)
refusal_is_one items defects (DoubleId i j) (ZeroItem k) p q h g = absurd (pair_breaks DifferentIds items i j h.1 g.1)
refusal_is_one items defects (ZeroItem k) (DoubleId i j) p q h g = absurd (pair_breaks DifferentIds items i j g.1 h.1)
refusal_is_one items defects (DoubleSequence i j) (ZeroItem k) p q h g = absurd (pair_breaks DifferentPlaces items i j h.2 g.2)
refusal_is_one items defects (ZeroItem k) (DoubleSequence i j) p q h g = absurd (pair_breaks DifferentPlaces items i j g.2 h.2)
refusal_is_one items defects x y p q h k = grind (arith, h, k)

pub allowed_is_not_refused : (items : List Item) (defects : List Defect) (x : BadInstance) → MakesInstance items defects → RefusesLists x items defects → x ≡ Memory
allowed_is_not_refused items defects Memory h k = refl
allowed_is_not_refused items defects (DoubleId i j) h k = absurd (pair_breaks DifferentIds items i j k.1 h.ids)
allowed_is_not_refused items defects (DoubleSequence i j) h k = absurd (pair_breaks DifferentPlaces items i j k.2 h.sequences)
allowed_is_not_refused items defects (ZeroItem i) h k = absurd (flat_breaks items i k.3 h.sides)
allowed_is_not_refused items defects x h k = grind (arith, h.counted, k)
