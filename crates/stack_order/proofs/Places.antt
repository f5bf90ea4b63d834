-- No two items that are cut stand at one place of a stack.
use Rattle.std.proofs.Common.{◌≡◌, ◌≢◌, ℕ, ◌<◌, ◌==◌, inl, inr, List, [], ◌∷◌, length, get_or, refl, sym, ap, subst, ◌∙◌, Option, Some, None, All, AllPairs, eqb-true}
use Rattle.std.specs.List.{cons_option}
use Rattle.std.proofs.lemmas.Bool.{cases_order}
use Rattle.std.proofs.lemmas.List.{get_or_default}
use Rattle.std.proofs.lemmas.List.Elements.{All-nil, All-cons, All-head, All-tail}
use Rattle.glass_base.proofs.Pairs.{pairs_nil, pairs_cons, pairs_head, pairs_tail}
use Rattle.glass_base.specs.declared.item.Item.{Item}
use Rattle.glass_base.specs.Items.{DifferentPlaces}
use Rattle.cut_model.specs.Order.{item_with}
use Rattle.stack_order.specs.declared.cuts.ItemCut.{ItemCut}
use Rattle.stack_order.specs.Cuts.{AreCuts}
use Rattle.stack_order.specs.Breaches.{items_of}
use Rattle.stack_order.proofs.Searches.{find_some}

-- two elements of a list, the first one further to the left, are in the relation of its pairs
pair_apart : (items : List Item) (k l : ℕ) (x y : Item) → AllPairs DifferentPlaces items → k < l → l < length items → get_or items k x ≡ x → get_or items l y ≡ y → DifferentPlaces x y
pair_apart items k l x y places before within x_is y_is =
    let here : DifferentPlaces (get_or items k x) (get_or items l x) = places k l x before within in
    let right : DifferentPlaces (get_or items k x) y = subst (λ (z : Item). DifferentPlaces (get_or items k x) z) (get_or_default items l x y within ∙ y_is) here in
    subst (λ (z : Item). DifferentPlaces z y) x_is right

-- items that are found by different numbers have different places
found_apart : (items : List Item) (m n : ℕ) (x y : Item) → AllPairs DifferentPlaces items → item_with items m ≡ Some x → item_with items n ≡ Some y → m ≢ n → DifferentPlaces x y
found_apart items m n x y places x_is y_is differ =
    let left = find_some (λ (item : Item). item.id == m) items x x_is in
    let right = find_some (λ (item : Item). item.id == n) items y y_is in
    elim (cases_order left.0.0 right.0.0) [
      | inl same ↦
          let one : x ≡ y = sym left.0.2 ∙ ap (λ (k : ℕ). get_or items k x) same ∙ get_or_default items right.0.0 x y right.0.1 ∙ right.0.2 in
          absurd (differ (sym (eqb-true x.id m left.1) ∙ ap (λ (item : Item). item.id) one ∙ eqb-true y.id n right.1))
      | inr other ↦ elim other [
        | inl before ↦ pair_apart items left.0.0 right.0.0 x y places before right.0.1 left.0.2 right.0.2
        | inr behind ↦
            let turned : DifferentPlaces y x = pair_apart items right.0.0 left.0.0 y x places behind left.0.1 right.0.2 left.0.2 in
            λ stacks sequences. turned (sym stacks) (sym sequences)
      ]
    ]

-- an item stands apart from the items of cuts of other numbers
others_apart : (items : List Item) (number : ℕ) (item : Item) (cuts : List ItemCut) → AllPairs DifferentPlaces items → item_with items number ≡ Some item → AreCuts items cuts → All (λ c. number ≢ c.number) cuts → All (DifferentPlaces item) (items_of cuts)
others_apart items number item [] places is are differ = All-nil (DifferentPlaces item)
others_apart items number item (c ∷ cuts) places is are differ =
    by c.item refl (others_apart items number item cuts places is (All-tail (λ (a : ItemCut). a.item ≡ item_with items a.number) c cuts are) (All-tail (λ (a : ItemCut). number ≢ a.number) c cuts differ))
  where
    by : (o : Option Item) → c.item ≡ o → All (DifferentPlaces item) (items_of cuts) → All (DifferentPlaces item) (cons_option o (items_of cuts))
    by None e rest = rest
    by (Some other) e rest =
        let other_is : item_with items c.number ≡ Some other = sym (All-head (λ (a : ItemCut). a.item ≡ item_with items a.number) c cuts are) ∙ e in
        All-cons (DifferentPlaces item) other (items_of cuts)
        (found_apart items number c.number item other places is other_is (All-head (λ (a : ItemCut). number ≢ a.number) c cuts differ)) rest

-- where no number is cut twice, no two items that are cut have one place
pub places_differ : (items : List Item) (cuts : List ItemCut) → AllPairs DifferentPlaces items → AreCuts items cuts → AllPairs (λ a c. a.number ≢ c.number) cuts → AllPairs DifferentPlaces (items_of cuts)
places_differ items [] places are once = pairs_nil DifferentPlaces
places_differ items (c ∷ cuts) places are once =
    let are_rest = All-tail (λ (a : ItemCut). a.item ≡ item_with items a.number) c cuts are in
    by c.item refl are_rest (places_differ items cuts places are_rest (pairs_tail (λ (a d : ItemCut). a.number ≢ d.number) c cuts once))
  where
    by : (o : Option Item) → c.item ≡ o → AreCuts items cuts → AllPairs DifferentPlaces (items_of cuts) → AllPairs DifferentPlaces (cons_option o (items_of cuts))
    by None e are_rest rest = rest
    by (Some item) e are_rest rest =
        let item_is : item_with items c.number ≡ Some item = sym (All-head (λ (a : ItemCut). a.item ≡ item_with items a.number) c cuts are) ∙ e in
        pairs_cons DifferentPlaces item (items_of cuts)
        (others_apart items c.number item cuts places item_is are_rest (pairs_head (λ (a d : ItemCut). a.number ≢ d.number) c cuts once)) rest
