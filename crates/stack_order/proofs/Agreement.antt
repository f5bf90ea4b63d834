-- The rules on the order of items, said of what is cut and said of a plan's rows.
use Rattle.std.proofs.Common.{◌≡◌, ◌≢◌, ℕ, ◌==◌, true, false, ◌⊎◌, inl, inr, List, [], ◌∷◌, get_or, refl, sym, ap, subst, arith, Option, Some, None, IsSome, is_some, All, AllPairs, Any, Contains, eqb-true, eq-eqb}
use Rattle.std.specs.List.{filter_map, cons_option}
use Rattle.std.specs.Option.{option_map}
use Rattle.std.proofs.lemmas.List.Elements.{All-nil, All-cons, All-map, All-weaker}
use Rattle.glass_base.proofs.Pairs.{pairs_map, contained_map}
use Rattle.glass_base.specs.declared.item.Item.{Item}
use Rattle.glass_base.specs.Problem.{Problem}
use Rattle.cut_model.specs.declared.broken.Broken.{Broken}
use Rattle.cut_model.specs.declared.family.Row.{Row}
use Rattle.cut_model.specs.Lawful.{IsItemOn, KeepsOrderRules, plate_rows}
use Rattle.cut_model.specs.Order.{cut_order, item_named, item_with, items_cut, KeepsStacks}
use Rattle.cut_model.proofs.Firsts.{first_not_all}
use Rattle.stack_order.specs.declared.cuts.ItemCut.{ItemCut}
use Rattle.stack_order.specs.declared.order_rule.OrderRule.{OrderRule}
use Rattle.stack_order.specs.Cuts.{cuts_of, AreCuts}
use Rattle.stack_order.specs.Breaches.{numbers, numbers_cut, items_of, HasItem, KeepsOrderRule, order_rules, IsBreach}
use Rattle.stack_order.proofs.Searches.{find_some, find_is_some, any_cases, any_first, any_later, any_none, any_from_contained, all_unmap, pairs_unmap}
use Rattle.stack_order.proofs.Answered.{all_kept}

-- the cut of an item, where a row names one
abbrev cut_at : List Item → Row → Option ℕ → Option ItemCut
cut_at items row o = option_map (λ number. record { plate = row.plate; node = row.node; number = number; item = item_with items number }) o

-- the numbers that are cut are those that the rows name
numbers_agree : (items : List Item) (rows : List Row) → numbers_cut (cuts_of items rows) ≡ cut_order rows
numbers_agree items [] = refl
numbers_agree items (row ∷ rows) = by (numbers_agree items rows) (item_named row.kind)
  where
    by : numbers_cut (cuts_of items rows) ≡ cut_order rows → (o : Option ℕ) → numbers_cut (cons_option (cut_at items row o) (cuts_of items rows)) ≡ cons_option o (cut_order rows)
    by rest None = rest
    by rest (Some number) = ap (λ (l : List ℕ). number ∷ l) rest

-- the items that are cut are those that the rows name
items_agree : (items : List Item) (rows : List Row) → items_of (cuts_of items rows) ≡ items_cut items rows
items_agree items [] = refl
items_agree items (row ∷ rows) = by (items_agree items rows) (item_named row.kind)
  where
    by : items_of (cuts_of items rows) ≡ items_cut items rows → (o : Option ℕ) → items_of (cons_option (cut_at items row o) (cuts_of items rows)) ≡ filter_map (item_with items) (cons_option o (cut_order rows))
    by rest None = rest
    by rest (Some number) = ap (cons_option (item_with items number)) rest

-- each cut has the item that its number names
pub are_cuts : (items : List Item) (rows : List Row) → AreCuts items (cuts_of items rows)
are_cuts items [] = All-nil (λ (c : ItemCut). c.item ≡ item_with items c.number)
are_cuts items (row ∷ rows) = by (are_cuts items rows) (item_named row.kind)
  where
    by : AreCuts items (cuts_of items rows) → (o : Option ℕ) → AreCuts items (cons_option (cut_at items row o) (cuts_of items rows))
    by rest None = rest
    by rest (Some number) =
        All-cons (λ (c : ItemCut). c.item ≡ item_with items c.number)
        (record { plate = row.plate; node = row.node; number = number; item = item_with items number }) (cuts_of items rows) refl rest

-- where an item is cut from a plate, the rows have one on it
has_from_cuts : (items : List Item) (rows : List Row) (plate : Row) → HasItem (cuts_of items rows) plate → Any (IsItemOn plate.plate) rows
has_from_cuts items [] plate h = absurd (any_none (λ (c : ItemCut). c.plate ≡ plate.plate) h)
has_from_cuts items (row ∷ rows) plate h = by (has_from_cuts items rows plate) (item_named row.kind) refl h
  where
    by : (HasItem (cuts_of items rows) plate → Any (IsItemOn plate.plate) rows) → (o : Option ℕ) → item_named row.kind ≡ o → HasItem (cons_option (cut_at items row o) (cuts_of items rows)) plate → Any (IsItemOn plate.plate) (row ∷ rows)
    by rest None e has = any_later (IsItemOn plate.plate) row rows (rest has)
    by rest (Some number) e has =
        elim (any_cases (λ (c : ItemCut). c.plate ≡ plate.plate) (record { plate = row.plate; node = row.node; number = number; item = item_with items number }) (cuts_of items rows) has) [
          | inl is ↦ any_first (IsItemOn plate.plate) row rows (is, ap is_some e)
          | inr later ↦ any_later (IsItemOn plate.plate) row rows (rest later)
        ]

-- where the rows have an item on a plate, one is cut from it
cuts_from_has : (items : List Item) (rows : List Row) (plate : Row) → Any (IsItemOn plate.plate) rows → HasItem (cuts_of items rows) plate
cuts_from_has items [] plate h = absurd (any_none (IsItemOn plate.plate) h)
cuts_from_has items (row ∷ rows) plate h = by (cuts_from_has items rows plate) (item_named row.kind) refl (any_cases (IsItemOn plate.plate) row rows h)
  where
    by : (Any (IsItemOn plate.plate) rows → HasItem (cuts_of items rows) plate) → (o : Option ℕ) → item_named row.kind ≡ o → IsItemOn plate.plate row ⊎ Any (IsItemOn plate.plate) rows → HasItem (cons_option (cut_at items row o) (cuts_of items rows)) plate
    by rest None e (inl is) =
        let some : is_some (item_named row.kind) ≡ true = is.1 in
        let none : is_some (item_named row.kind) ≡ false = ap is_some e in
        absurd (cc)
    by rest None e (inr later) = rest later
    by rest (Some number) e (inl is) =
        any_first (λ (c : ItemCut). c.plate ≡ plate.plate) (record { plate = row.plate; node = row.node; number = number; item = item_with items number }) (cuts_of items rows) is.0
    by rest (Some number) e (inr later) =
        any_later (λ (c : ItemCut). c.plate ≡ plate.plate) (record { plate = row.plate; node = row.node; number = number; item = item_with items number }) (cuts_of items rows) (rest later)

-- where an item is found by a number, the batch has the number
known_from_found : (items : List Item) (number : ℕ) → IsSome (item_with items number) → Contains (numbers items) number
known_from_found items number some = by (item_with items number) refl some
  where
    by : (o : Option Item) → item_with items number ≡ o → IsSome o → Contains (numbers items) number
    by None e is = absurd (cc)
    by (Some item) e is =
        let h = find_some (λ (other : Item). other.id == number) items item e in
        subst (Contains (numbers items)) (eqb-true item.id number h.1) (contained_map (λ (other : Item). other.id) items item h.0)

-- where the batch has a number, an item is found by it
found_from_known : (items : List Item) (number : ℕ) → Contains (numbers items) number → IsSome (item_with items number)
found_from_known items number known =
    let h = any_from_contained (λ (other : Item). other.id) items number known in
    find_is_some (λ (other : Item). other.id == number) items h.1 (h.0, h.2, h.3) (eq-eqb h.1.id number h.4)

-- where the batch has each item that is cut, it has each number
numbers_from_items : (items : List Item) (cuts : List ItemCut) → AreCuts items cuts → All (λ c. IsSome c.item) cuts → All (Contains (numbers items)) (numbers_cut cuts)
numbers_from_items items cuts are known =
    All-map (Contains (numbers items)) (λ (c : ItemCut). c.number) cuts
    (λ k d lt. known_from_found items (get_or cuts k d).number (subst (λ (o : Option Item). IsSome o) (are k d lt) (known k d lt)))

-- where the batch has each number that is cut, it has each item
items_from_numbers : (items : List Item) (cuts : List ItemCut) → AreCuts items cuts → All (Contains (numbers items)) (numbers_cut cuts) → All (λ c. IsSome c.item) cuts
items_from_numbers items cuts are known k d lt =
    subst (λ (o : Option Item). IsSome o) (sym (are k d lt))
    (found_from_known items (get_or cuts k d).number (all_unmap (Contains (numbers items)) (λ (c : ItemCut). c.number) cuts known k d lt))

-- a plan whose cuts keep each rule keeps them by its rows
rows_from_cuts : (b : Problem) (rows : List Row) → All (KeepsOrderRule b (cuts_of b.items rows) (plate_rows rows)) order_rules → KeepsOrderRules b rows
rows_from_cuts b rows kept =
    let cuts : List ItemCut = cuts_of b.items rows in
    record {
      each_once = record {
        known = subst (All (Contains (numbers b.items))) (numbers_agree b.items rows) (numbers_from_items b.items cuts (are_cuts b.items rows) (kept 0 OrderRule.L10 (omega arith)));
        once = subst (AllPairs (λ (m n : ℕ). m ≢ n)) (numbers_agree b.items rows) (pairs_map (λ (m n : ℕ). m ≢ n) (λ (c : ItemCut). c.number) cuts (kept 1 OrderRule.L10 (omega arith)));
        all = subst (λ (order : List ℕ). All (Contains order) (numbers b.items)) (numbers_agree b.items rows) (kept 2 OrderRule.L10 (omega arith));
      };
      each_plate = All-weaker (HasItem cuts) (λ (p : Row). Any (IsItemOn p.plate) rows) (has_from_cuts b.items rows) (plate_rows rows) (kept 3 OrderRule.L10 (omega arith));
      few_plates = kept 4 OrderRule.L10 (omega arith);
      stacks = subst KeepsStacks (items_agree b.items rows) (kept 5 OrderRule.L10 (omega arith));
    }

-- a plan that keeps the rules by its rows keeps each of them by its cuts
cuts_from_rows : (b : Problem) (rows : List Row) → KeepsOrderRules b rows → All (KeepsOrderRule b (cuts_of b.items rows) (plate_rows rows)) order_rules
cuts_from_rows b rows lawful =
    let cuts : List ItemCut = cuts_of b.items rows in
    let same = numbers_agree b.items rows in
    all_kept b cuts (plate_rows rows)
    (items_from_numbers b.items cuts (are_cuts b.items rows) (subst (All (Contains (numbers b.items))) (sym same) lawful.each_once.known))
    (pairs_unmap (λ (m n : ℕ). m ≢ n) (λ (c : ItemCut). c.number) cuts (subst (AllPairs (λ (m n : ℕ). m ≢ n)) (sym same) lawful.each_once.once))
    (subst (λ (order : List ℕ). All (Contains order) (numbers b.items)) (sym same) lawful.each_once.all)
    (All-weaker (λ (p : Row). Any (IsItemOn p.plate) rows) (HasItem cuts) (cuts_from_has b.items rows) (plate_rows rows) lawful.each_plate)
    lawful.few_plates
    (subst KeepsStacks (sym (items_agree b.items rows)) lawful.stacks)

-- what is gathered of a plan's rows
pub record AreGathered (b : Problem) (rows : List Row) (cuts : List ItemCut) (plates : List Row) : Type 0 where
  pub cuts_are : cuts ≡ cuts_of b.items rows
  pub plates_are : plates ≡ plate_rows rows

-- a breach of what is gathered is a breach of the plan
pub breach_agrees : (b : Problem) (rows : List Row) (cuts : List ItemCut) (plates : List Row) (broken : Broken) → AreGathered b rows cuts plates → IsBreach b cuts plates broken → IsBreach b (cuts_of b.items rows) (plate_rows rows) broken
breach_agrees b rows cuts plates broken are h =
    subst (λ (ps : List Row). IsBreach b (cuts_of b.items rows) ps broken) are.plates_are (subst (λ (cs : List ItemCut). IsBreach b cs plates broken) are.cuts_are h)

-- a plan with a breach does not keep the rules
pub breach_unlawful : (b : Problem) (rows : List Row) (cuts : List ItemCut) (plates : List Row) (broken : Broken) → AreGathered b rows cuts plates → IsBreach b cuts plates broken → ¬ KeepsOrderRules b rows
breach_unlawful b rows cuts plates broken are h lawful =
    let breach = breach_agrees b rows cuts plates broken are h in
    first_not_all order_rules breach.rule breach.first (cuts_from_rows b rows lawful)

-- a plan without one keeps them
pub kept_lawful : (b : Problem) (rows : List Row) (cuts : List ItemCut) (plates : List Row) → AreGathered b rows cuts plates → All (KeepsOrderRule b cuts plates) order_rules → KeepsOrderRules b rows
kept_lawful b rows cuts plates are kept =
    rows_from_cuts b rows
    (subst (λ (ps : List Row). All (KeepsOrderRule b (cuts_of b.items rows) ps) order_rules) are.plates_are (subst (λ (cs : List ItemCut). All (KeepsOrderRule b cs plates) order_rules) are.cuts_are kept))
