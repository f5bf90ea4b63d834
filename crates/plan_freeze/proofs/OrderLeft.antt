-- The rules on the order of items, of a plan and of its plates behind the first ones.
use Rattle.std.proofs.Common.{◌≡◌, ℕ, ◌+◌, ◌-◌, ◌<◌, ◌≤◌, ◌==◌, inl, inr, Bool, List, ◌++◌, map, filter, get_or, length, length-append, sym, ap, subst, ◌∙◌, arith, All, Any}
use Rattle.std.specs.List.{filter_map}
use Rattle.std.proofs.lemmas.List.{length-map}
use Rattle.std.proofs.lemmas.List.Elements.{All-append, All-filter, All-map, All-weaker, filter-append, filter_map-append}
use Rattle.glass_base.specs.Problem.{Problem}
use Rattle.glass_base.specs.declared.item.Item.{Item}
use Rattle.cut_model.specs.declared.family.Row.{Row}
use Rattle.cut_model.specs.Lawful.{CutsEachOnce, IsItemOn, KeepsOrderRules, UsesEachPlate, plate_rows}
use Rattle.cut_model.specs.Order.{KeepsStacks, cut_order, item_named, item_with, items_cut}
use Rattle.loss_area.proofs.Areas.{All-both}
use Rattle.plan_freeze.specs.Rests.{items_besides}
use Rattle.plan_freeze.proofs.ItemsLeft.{once_left, once_whole, stacks_left, stacks_whole}
use Rattle.plan_freeze.proofs.Lists.{all_unmap, any_cases, any_left, any_map, any_none, any_right, any_unmap, any_weaker}
use Rattle.plan_freeze.proofs.RowsShifted.{items_shifted, plates_shifted}
use Rattle.plan_freeze.proofs.Shifted.{shifted_row}

-- the rows of plates behind others cut their items behind them
pub items_joined : (k n : ℕ) (first later : List Row) → cut_order (first ++ map (shifted_row k n) later) ≡ cut_order first ++ cut_order later
items_joined k n first later =
    filter_map-append (λ (r : Row). item_named r.kind) first (map (shifted_row k n) later) ∙ ap (λ (l : List ℕ). cut_order first ++ l) (items_shifted k n later)

plates_joined : (k n : ℕ) (first later : List Row) → plate_rows (first ++ map (shifted_row k n) later) ≡ plate_rows first ++ map (shifted_row k n) (plate_rows later)
plates_joined k n first later =
    filter-append (λ (r : Row). r.cut == 0) first (map (shifted_row k n) later) ∙ ap (λ (l : List Row). plate_rows first ++ l) (plates_shifted k n later)

-- a plate before another one is not it
not_on : (k plate : ℕ) (r : Row) → r.plate < k → k ≤ plate → ¬ IsItemOn plate r
not_on k plate r lt le on = omega (arith, lt, le, on.0)

-- an item on a plate behind the first ones is among those behind
on_later : (k n plate : ℕ) (first later : List Row) → All (λ r. r.plate < k) first → Any (IsItemOn (plate + k)) (first ++ map (shifted_row k n) later) → Any (IsItemOn plate) later
on_later k n plate first later before h =
    elim (any_cases (IsItemOn (plate + k)) first (map (shifted_row k n) later) h) [
      | inl wrong ↦ absurd (any_none (IsItemOn (plate + k)) first (λ i d lt. not_on k (plate + k) (get_or first i d) (before i d lt) (omega arith)) wrong)
      | inr right ↦
          any_weaker (λ (r : Row). IsItemOn (plate + k) (shifted_row k n r)) (IsItemOn plate) (λ r on. (omega (arith, on.0), on.1)) later
          (any_unmap (IsItemOn (plate + k)) (shifted_row k n) later right)
    ]

-- an item on one of the first plates is among those of these plates
on_first : (k plate : ℕ) (first old : List Row) → plate < k → All (λ r. k ≤ r.plate) old → Any (IsItemOn plate) (first ++ old) → Any (IsItemOn plate) first
on_first k plate first old lt behind h =
    elim (any_cases (IsItemOn plate) first old h) [
      | inl right ↦ right
      | inr wrong ↦ absurd (any_none (IsItemOn plate) old (λ i d within on. omega (arith, lt, behind i d within, on.0)) wrong)
    ]

-- where each plate is used, those behind the first ones are
used_left : (k n : ℕ) (first later : List Row) → All (λ r. r.plate < k) first → UsesEachPlate (first ++ map (shifted_row k n) later) → UsesEachPlate later
used_left k n first later before used =
    let whole : List Row = first ++ map (shifted_row k n) later in
    let Used : Row → Type 0 = λ (p : Row). Any (IsItemOn p.plate) whole in
    let split : All Used (plate_rows first ++ map (shifted_row k n) (plate_rows later)) = subst (All Used) (plates_joined k n first later) used in
    let behind : All (λ p. Used (shifted_row k n p)) (plate_rows later) =
    all_unmap Used (shifted_row k n) (plate_rows later) (All-both Used (plate_rows first) (map (shifted_row k n) (plate_rows later)) split).1 in
    All-weaker (λ p. Used (shifted_row k n p)) (λ p. Any (IsItemOn p.plate) later) (λ p on. on_later k n p.plate first later before on) (plate_rows later) behind

-- the rows of plates among those of the first plates are on these
plates_before : (k : ℕ) (first : List Row) → All (λ r. r.plate < k) first → All (λ r. r.plate < k) (plate_rows first)
plates_before k first before = kept (λ (r : Row). r.cut == 0) first before
  where
    kept : (p : Row → Bool) (xs : List Row) → All (λ r. r.plate < k) xs → All (λ r. r.plate < k) (filter p xs)
    kept p xs h = All-filter p (λ (r : Row). r.plate < k) xs h

-- where the first plates are used, and those behind them, each plate is
used_whole : (k n : ℕ) (first old later : List Row) → All (λ r. r.plate < k) first → All (λ r. k ≤ r.plate) old → UsesEachPlate (first ++ old) → UsesEachPlate later → UsesEachPlate (first ++ map (shifted_row k n) later)
used_whole k n first old later before behind used rest =
    let whole : List Row = first ++ map (shifted_row k n) later in
    let Used : Row → Type 0 = λ (p : Row). Any (IsItemOn p.plate) whole in
    let Old : Row → Type 0 = λ (p : Row). Any (IsItemOn p.plate) (first ++ old) in
    let split : All Old (plate_rows first ++ plate_rows old) = subst (All Old) (filter-append (λ (r : Row). r.cut == 0) first old) used in
    let mine : All Old (plate_rows first) = (All-both Old (plate_rows first) (plate_rows old) split).0 in
    let within : All (λ r. r.plate < k) (plate_rows first) = plates_before k first before in
    subst (All Used) (sym (plates_joined k n first later))
    (All-append Used (plate_rows first) (map (shifted_row k n) (plate_rows later))
    (λ i d lt. any_left (IsItemOn (get_or (plate_rows first) i d).plate) first (map (shifted_row k n) later)
    (on_first k (get_or (plate_rows first) i d).plate first old (within i d lt) behind (mine i d lt)))
    (All-map Used (shifted_row k n) (plate_rows later)
    (All-weaker (λ p. Any (IsItemOn p.plate) later) (λ p. Used (shifted_row k n p))
    (λ p on. any_right (IsItemOn (p.plate + k)) first (map (shifted_row k n) later)
    (any_map (IsItemOn (p.plate + k)) (shifted_row k n) later
    (any_weaker (IsItemOn p.plate) (λ (r : Row). IsItemOn (p.plate + k) (shifted_row k n r)) (λ r is. (ap (λ (m : ℕ). m + k) is.0, is.1)) later on)))
    (plate_rows later) rest)))

count_joined : (k n : ℕ) (first later : List Row) → length (plate_rows (first ++ map (shifted_row k n) later)) ≡ length (plate_rows first) + length (plate_rows later)
count_joined k n first later =
    omega (
      arith,
      ap length (plates_joined k n first later),
      length-append (plate_rows first) (map (shifted_row k n) (plate_rows later)),
      length-map (plate_rows later) (shifted_row k n),
    )

-- the rows of the first plates, and what is left to be planned behind them
pub record AreFirst (b rest : Problem) (k : ℕ) (first : List Row) : Type 0 where
  pub before : All (λ r. r.plate < k) first
  pub many : length (plate_rows first) ≡ k
  pub items_are : rest.items ≡ items_besides (cut_order first) b.items
  pub plates_are : rest.params.plates ≡ b.params.plates - k

-- where a plan keeps the rules, its plates behind the first ones do
pub order_left : (b rest : Problem) (k n : ℕ) (first later : List Row) → AreFirst b rest k first → KeepsOrderRules b (first ++ map (shifted_row k n) later) → KeepsOrderRules rest later
order_left b rest k n first later are keeps =
    let cut : CutsEachOnce b.items (cut_order first ++ cut_order later) = subst (CutsEachOnce b.items) (items_joined k n first later) keeps.each_once in
    let once : CutsEachOnce (items_besides (cut_order first) b.items) (cut_order later) = once_left b.items (cut_order first) (cut_order later) cut in
    let Stacks : List ℕ → Type 0 = λ (order : List ℕ). KeepsStacks (filter_map (item_with b.items) order) in
    record {
      each_once = subst (λ (items : List Item). CutsEachOnce items (cut_order later)) (sym are.items_are) once;
      each_plate = used_left k n first later are.before keeps.each_plate;
      few_plates = omega (arith, keeps.few_plates, count_joined k n first later, are.many, are.plates_are);
      stacks = subst (λ (items : List Item). KeepsStacks (items_cut items later)) (sym are.items_are)
          (stacks_left b.items (cut_order first) (cut_order later) once (subst Stacks (items_joined k n first later) keeps.stacks));
    }

-- where they do behind the first plates of a plan that keeps the rules, the whole does
pub order_whole : (b rest : Problem) (k n : ℕ) (first old later : List Row) → AreFirst b rest k first → All (λ r. k ≤ r.plate) old → k ≤ b.params.plates →
    KeepsOrderRules b (first ++ old) → KeepsOrderRules rest later → KeepsOrderRules b (first ++ map (shifted_row k n) later)
order_whole b rest k n first old later are behind few keeps h =
    let both : cut_order (first ++ old) ≡ cut_order first ++ cut_order old = filter_map-append (λ (r : Row). item_named r.kind) first old in
    let cut : CutsEachOnce b.items (cut_order first ++ cut_order old) = subst (CutsEachOnce b.items) both keeps.each_once in
    let once : CutsEachOnce (items_besides (cut_order first) b.items) (cut_order later) = subst (λ (items : List Item). CutsEachOnce items (cut_order later)) are.items_are h.each_once in
    let Stacks : List ℕ → Type 0 = λ (order : List ℕ). KeepsStacks (filter_map (item_with b.items) order) in
    record {
      each_once = subst (CutsEachOnce b.items) (sym (items_joined k n first later)) (once_whole b.items (cut_order first) (cut_order old) (cut_order later) cut once);
      each_plate = used_whole k n first old later are.before behind keeps.each_plate h.each_plate;
      few_plates = omega (arith, h.few_plates, count_joined k n first later, are.many, are.plates_are, few);
      stacks = subst Stacks (sym (items_joined k n first later))
          (stacks_whole b.items (cut_order first) (cut_order old) (cut_order later) cut once (subst Stacks both keeps.stacks)
          (subst (λ (items : List Item). KeepsStacks (items_cut items later)) are.items_are h.stacks));
    }
