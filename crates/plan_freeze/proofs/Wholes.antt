-- A plan that begins with given plates, and its other plates as a plan of the instance that is left.
use Rattle.std.proofs.Common.{◌≡◌, ℕ, ◌+◌, ◌-◌, ◌<◌, ◌≤◌, List, [], ◌++◌, map, get_or, Bool, true, refl, sym, ap, subst, ◌∙◌, arith, All, Contains}
use Rattle.std.specs.List.{cons_option}
use Rattle.std.specs.Prelude.{Option, Some, None}
use Rattle.std.proofs.lemmas.List.{append_assoc, append_cancel_right, length-map, map-append}
use Rattle.std.proofs.lemmas.List.Elements.{All-append, All-cons, All-contains, All-head, All-map, All-nil, All-tail, All-weaker, Contains-get_or}
use Rattle.glass_base.specs.BadParams.{HasSizes}
use Rattle.glass_base.specs.Plates.{Width}
use Rattle.glass_base.specs.Problem.{Problem, IsProblem}
use Rattle.glass_base.specs.declared.item.Item.{Item}
use Rattle.cut_model.specs.declared.family.Family.{Family}
use Rattle.cut_model.specs.declared.family.Row.{Row}
use Rattle.cut_model.specs.declared.family.Sort.{Sort}
use Rattle.cut_model.specs.Families.{families, families_of, family_with, first_plate, rows_of}
use Rattle.cut_model.specs.Lawful.{CutsEachOnce, IsLawful, KeepsOrderRules}
use Rattle.cut_model.specs.Order.{cut_order, item_named}
use Rattle.cut_model.specs.Rules.{KeepsCutRules}
use Rattle.cut_model.specs.Sized.{on_plates, sized}
use Rattle.cut_model.specs.Tree.{Forest, nothing, piece, children_in, count, is_nothing, neighbour_count, type_number}
use Rattle.cut_model.proofs.Cutting.{items_in, rows_cut}
use Rattle.cut_model.proofs.Places.{plate_at}
use Rattle.loss_area.proofs.Areas.{All-both}
use Rattle.plan_freeze.specs.Frozen.{joined}
use Rattle.plan_freeze.specs.Rests.{defects_from, items_besides}
use Rattle.plan_freeze.proofs.Beginning.{families_joined, first_behind, frozen_before, frozen_families}
use Rattle.plan_freeze.proofs.CutsLeft.{AreOne, IsLeft, all_left, all_whole}
use Rattle.plan_freeze.proofs.Forests.{shaped_apart, shaped_together}
use Rattle.plan_freeze.proofs.ItemsLeft.{found_left, ids, left_known, none_again}
use Rattle.plan_freeze.proofs.OrderLeft.{AreFirst, items_joined, order_left, order_whole}
use Rattle.plan_freeze.proofs.RowsShifted.{frozen_plates, rows, rows_shifted}
use Rattle.plan_freeze.proofs.Shifted.{families_shifted, shifted, shifted_row}

-- the rows of first plates
abbrev pub first_rows : Problem → Forest → List Row
first_rows b plan = rows (frozen_families b 0 true 0 plan)

-- the instance that is left behind these plates
pub record IsBehind (b rest : Problem) (plan : Forest) : Type 0 where
  pub items_are : rest.items ≡ items_besides (cut_order (first_rows b plan)) b.items
  pub defects_are : rest.defects ≡ defects_from (neighbour_count plan) b.defects
  pub widths_are : (plate : ℕ) → Width rest plate ≡ Width b (plate + neighbour_count plan)
  pub params_are : HasSizes rest.params (b.params.plates - neighbour_count plan) b.params.width b.params.height b.params.min1 b.params.max1 b.params.min2 b.params.waste

-- the plates behind have the same widths
sized_left : (b rest : Problem) (k : ℕ) → ((plate : ℕ) → Width rest plate ≡ Width b (plate + k)) → (plate : ℕ) (plan : Forest) → sized b (plate + k) plan ≡ sized rest plate plan
sized_left b rest k widths plate nothing = refl
sized_left b rest k widths plate (piece size sort inner later) =
    let next : plate + k + 1 ≡ plate + 1 + k = omega arith in
    ap (λ (w : ℕ). piece w sort inner (sized b (plate + k + 1) later)) (sym (widths plate))
    ∙ ap (piece (Width rest plate) sort inner) (ap (λ (p : ℕ). sized b p later) next ∙ sized_left b rest k widths (plate + 1) later)

-- whether a plate is the first one matters to no rule on cuts
first_cuts : (b c : Problem) (first second : Bool) (node : ℕ) (plan : Forest) → All (KeepsCutRules b) (families (first_plate c) first node plan) → All (KeepsCutRules b) (families (first_plate c) second node plan)
unfolding families
first_cuts b c first second node nothing h = All-nil _
first_cuts b c first second node (piece size sort inner later) h =
    let f : Family = family_with (first_plate c) first (is_nothing later) node size sort (children_in inner) in
    let g : Family = family_with (first_plate c) second (is_nothing later) node size sort (children_in inner) in
    let here : KeepsCutRules b f = All-head (KeepsCutRules b) f _ h in
    All-cons (KeepsCutRules b) g _
    (record { l1 = here.l1; l2 = here.l2; l3 = here.l3; l4 = here.l4; l5 = here.l5; l6 = here.l6; l7 = here.l7; l8 = λ not_first. tt })
    (All-tail (KeepsCutRules b) f _ h)

-- nor to the rows
first_same : (c : Problem) (first second : Bool) (node : ℕ) (plan : Forest) → rows (families (first_plate c) first node plan) ≡ rows (families (first_plate c) second node plan)
unfolding families
first_same c first second node nothing = refl
first_same c first second node (piece size sort inner later) = refl

-- the families of the plates behind the first ones
abbrev pub tail_families : Problem → Forest → Forest → List Family
tail_families rest plan tail = families (first_plate rest) (first_behind plan true) 0 (on_plates rest tail)

pub families_whole : (b rest : Problem) (plan : Forest) (size : ℕ) (sort : Sort) (inner more : Forest) → IsBehind b rest plan →
    families_of b (joined plan (piece size sort inner more))
    ≡ frozen_families b 0 true 0 plan ++ map (shifted (neighbour_count plan) (count plan)) (tail_families rest plan (piece size sort inner more))
families_whole b rest plan size sort inner more behind =
    let tail : Forest = piece size sort inner more in
    let k : ℕ = neighbour_count plan in
    let n : ℕ = count plan in
    let first : Bool = first_behind plan true in
    let wide : sized b (0 + k) tail ≡ sized rest 0 tail = sized_left b rest k behind.widths_are 0 tail in
    families_joined b 0 true 0 plan size sort inner more
    ∙ ap (λ (l : List Family). frozen_families b 0 true 0 plan ++ l)
    (ap (λ (t : Forest). families (plate_at b (0 + k)) first (0 + n) t) wide
    ∙ ap (λ (h : ℕ). families (record (plate_at b (0 + k)) { height = h }) first (0 + n) (sized rest 0 tail)) (sym behind.params_are.height_is)
    ∙ families_shifted k n (first_plate rest) first 0 (sized rest 0 tail))

-- the rows of a plan that begins with these plates
pub rows_whole : (b rest : Problem) (plan : Forest) (size : ℕ) (sort : Sort) (inner more : Forest) → IsBehind b rest plan →
    rows_of b (joined plan (piece size sort inner more)) ≡ first_rows b plan ++ map (shifted_row (neighbour_count plan) (count plan)) (rows_of rest (piece size sort inner more))
rows_whole b rest plan size sort inner more behind =
    let tail : Forest = piece size sort inner more in
    let k : ℕ = neighbour_count plan in
    let n : ℕ = count plan in
    ap rows (families_whole b rest plan size sort inner more behind)
    ∙ map-append (λ (f : Family). f.row) (frozen_families b 0 true 0 plan) (map (shifted k n) (tail_families rest plan tail))
    ∙ ap (λ (l : List Row). first_rows b plan ++ l)
    (rows_shifted k n (tail_families rest plan tail) ∙ ap (map (shifted_row k n)) (first_same rest (first_behind plan true) true 0 (on_plates rest tail)))

are_first : (b rest : Problem) (plan : Forest) → IsBehind b rest plan → AreFirst b rest (neighbour_count plan) (first_rows b plan)
are_first b rest plan behind = record {
  before = All-map (λ (r : Row). r.plate < neighbour_count plan) (λ (f : Family). f.row) (frozen_families b 0 true 0 plan) (frozen_before b 0 true 0 plan (neighbour_count plan) (omega arith));
  many = frozen_plates b 0 true 0 plan;
  items_are = behind.items_are;
  plates_are = behind.params_are.plates_is;
}

is_left : (b rest : Problem) (plan : Forest) → IsBehind b rest plan → IsLeft b rest (neighbour_count plan)
is_left b rest plan behind =
    let p = behind.params_are in
    record {
      params_are = record { plates_is = refl; width_is = p.width_is; height_is = p.height_is; min1_is = p.min1_is; max1_is = p.max1_is; min2_is = p.min2_is; waste_is = p.waste_is };
      defects_are = behind.defects_are;
    }

-- the items that are cut behind the first plates are the same in both lists
tail_items : (b rest : Problem) (plan tail : Forest) → IsBehind b rest plan → CutsEachOnce rest.items (cut_order (rows_of rest tail)) →
    All (AreOne b.items rest.items) (cut_order (rows (tail_families rest plan tail)))
tail_items b rest plan tail behind once =
    let first : List ℕ = cut_order (first_rows b plan) in
    let order : List ℕ = cut_order (rows_of rest tail) in
    let cut : CutsEachOnce (items_besides first b.items) order = subst (λ (items : List Item). CutsEachOnce items order) behind.items_are once in
    let each : All (AreOne b.items (items_besides first b.items)) order =
    All-weaker (λ n. ¬ Contains first n) (AreOne b.items (items_besides first b.items)) (found_left first b.items) order (none_again b.items first order cut) in
    let mine : All (AreOne b.items rest.items) order = subst (λ (items : List Item). All (AreOne b.items items) order) (sym behind.items_are) each in
    subst (λ (rs : List Row). All (AreOne b.items rest.items) (cut_order rs)) (sym (first_same rest (first_behind plan true) true 0 (on_plates rest tail))) mine

-- a plan that begins with these plates and is lawful has lawful plates behind them
pub lawful_left : (b rest : Problem) (plan : Forest) (size : ℕ) (sort : Sort) (inner more : Forest) → IsBehind b rest plan →
    IsLawful b (joined plan (piece size sort inner more)) → IsLawful rest (piece size sort inner more)
lawful_left b rest plan size sort inner more behind lawful =
    let tail : Forest = piece size sort inner more in
    let k : ℕ = neighbour_count plan in
    let n : ℕ = count plan in
    let first : Bool = first_behind plan true in
    let order : KeepsOrderRules rest (rows_of rest tail) =
    order_left b rest k n (first_rows b plan) (rows_of rest tail) (are_first b rest plan behind)
    (subst (KeepsOrderRules b) (rows_whole b rest plan size sort inner more behind) lawful.order) in
    let all : All (KeepsCutRules b) (frozen_families b 0 true 0 plan ++ map (shifted k n) (tail_families rest plan tail)) =
    subst (All (KeepsCutRules b)) (families_whole b rest plan size sort inner more behind) lawful.cuts in
    let mine : All (KeepsCutRules b) (map (shifted k n) (tail_families rest plan tail)) =
    (All-both (KeepsCutRules b) (frozen_families b 0 true 0 plan) (map (shifted k n) (tail_families rest plan tail)) all).1 in
    record {
      shape = (shaped_apart plan tail lawful.shape).1;
      cuts = first_cuts rest rest first true 0 (on_plates rest tail)
          (all_left b rest k n (first_plate rest) first 0 (on_plates rest tail) (is_left b rest plan behind) (tail_items b rest plan tail behind order.each_once) mine);
      order = order;
    }

-- behind the first plates of a lawful plan, lawful plates make a lawful plan
pub lawful_whole : (b rest : Problem) (plan : Forest) (s : ℕ) (t : Sort) (i m : Forest) (size : ℕ) (sort : Sort) (inner more : Forest) → IsBehind b rest plan → neighbour_count plan ≤ b.params.plates →
    IsLawful b (joined plan (piece s t i m)) → IsLawful rest (piece size sort inner more) → IsLawful b (joined plan (piece size sort inner more))
lawful_whole b rest plan s t i m size sort inner more behind few whole lawful =
    let old : Forest = piece s t i m in
    let tail : Forest = piece size sort inner more in
    let k : ℕ = neighbour_count plan in
    let n : ℕ = count plan in
    let first : Bool = first_behind plan true in
    let before : All (KeepsCutRules b) (frozen_families b 0 true 0 plan) =
    (All-both (KeepsCutRules b) (frozen_families b 0 true 0 plan) (map (shifted k n) (tail_families rest plan old)) (subst (All (KeepsCutRules b)) (families_whole b rest plan s t i m behind) whole.cuts)).0 in
    let mine : All (KeepsCutRules b) (map (shifted k n) (tail_families rest plan tail)) =
    all_whole b rest k n (first_plate rest) first 0 (on_plates rest tail) (is_left b rest plan behind) (tail_items b rest plan tail behind lawful.order.each_once)
    (first_cuts rest rest true first 0 (on_plates rest tail) lawful.cuts) in
    let far : All (λ (r : Row). k ≤ r.plate) (map (shifted_row k n) (rows_of rest old)) = All-map (λ (r : Row). k ≤ r.plate) (shifted_row k n) (rows_of rest old) (λ j d lt. omega arith) in
    record {
      shape = shaped_together plan tail (shaped_apart plan old whole.shape).0 lawful.shape;
      cuts = subst (All (KeepsCutRules b)) (sym (families_whole b rest plan size sort inner more behind))
          (All-append (KeepsCutRules b) (frozen_families b 0 true 0 plan) (map (shifted k n) (tail_families rest plan tail)) before mine);
      order = subst (KeepsOrderRules b) (sym (rows_whole b rest plan size sort inner more behind))
          (order_whole b rest k n (first_rows b plan) (map (shifted_row k n) (rows_of rest old)) (rows_of rest tail) (are_first b rest plan behind) far few
          (subst (KeepsOrderRules b) (rows_whole b rest plan s t i m behind) whole.order) lawful.order);
    }

-- a plan that uses no plate is lawful for no instance
pub none_is_unlawful : (rest : Problem) → IsProblem rest → ¬ IsLawful rest nothing
unfolding families
none_is_unlawful rest rules lawful =
    let has : Contains [] (get_or (ids rest.items) 0 0) = lawful.order.each_once.all 0 0 (omega (arith, rules.some, length-map rest.items (λ (item : Item). item.id))) in
    omega (arith, has.1)

items_apart : (plan tail : Forest) → items_in (joined plan tail) ≡ items_in plan ++ items_in tail
items_apart nothing tail = refl
items_apart (piece size sort inner later) tail =
    ap (λ (l : List ℕ). cons_option (item_named (type_number sort)) (items_in inner ++ l)) (items_apart later tail)
    ∙ ap (cons_option (item_named (type_number sort))) (sym (append_assoc (items_in inner) (items_in later) (items_in tail)))
    ∙ by (item_named (type_number sort)) (items_in inner ++ items_in later)
  where
    by : (o : Option ℕ) (xs : List ℕ) → cons_option o (xs ++ items_in tail) ≡ cons_option o xs ++ items_in tail
    by None xs = refl
    by (Some number) xs = refl

-- the first plates cut the same items whatever stands behind them
pub first_items : (b rest : Problem) (plan : Forest) (size : ℕ) (sort : Sort) (inner more : Forest) → IsBehind b rest plan → cut_order (first_rows b plan) ≡ cut_order (rows_of b plan)
first_items b rest plan size sort inner more behind =
    let tail : Forest = piece size sort inner more in
    let k : ℕ = neighbour_count plan in
    let n : ℕ = count plan in
    let whole : cut_order (first_rows b plan) ++ items_in tail ≡ items_in plan ++ items_in tail =
    ap (λ (l : List ℕ). cut_order (first_rows b plan) ++ l) (sym (rows_cut rest tail))
    ∙ sym (items_joined k n (first_rows b plan) (rows_of rest tail))
    ∙ ap cut_order (sym (rows_whole b rest plan size sort inner more behind))
    ∙ rows_cut b (joined plan tail) ∙ items_apart plan tail in
    append_cancel_right (cut_order (first_rows b plan)) (items_in plan) (items_in tail) whole ∙ sym (rows_cut b plan)

-- the first plates alone are no lawful plan, since items are left
pub first_alone : (b rest : Problem) (plan : Forest) (size : ℕ) (sort : Sort) (inner more : Forest) → IsProblem rest → IsBehind b rest plan → ¬ IsLawful b plan
first_alone b rest plan size sort inner more rules behind lawful =
    let first : List ℕ = cut_order (first_rows b plan) in
    let n : ℕ = get_or (ids rest.items) 0 0 in
    let has : Contains (ids rest.items) n = Contains-get_or (ids rest.items) 0 0 (omega (arith, rules.some, length-map rest.items (λ (item : Item). item.id))) in
    let here = left_known first b.items n (subst (λ (items : List Item). Contains (ids items) n) behind.items_are has) in
    let all : All (Contains first) (ids b.items) = subst (λ (order : List ℕ). All (Contains order) (ids b.items)) (sym (first_items b rest plan size sort inner more behind)) lawful.order.each_once.all in
    here.1 (All-contains (Contains first) (ids b.items) n all here.0)
