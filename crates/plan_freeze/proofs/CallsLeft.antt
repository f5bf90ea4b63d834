-- What the calls know of a lawful plan whose first plates are cut already.
use Rattle.std.proofs.Common.{◌≡◌, ℕ, ◌+◌, ◌-◌, ◌<◌, ◌≤◌, List, drop, length, get_or, refl, sym, ap, subst, ◌∙◌, arith}
use Rattle.std.proofs.lemmas.List.{get_or-drop}
use Rattle.glass_base.specs.BadInstance.{RefusesLists}
use Rattle.glass_base.specs.BadParams.{HasSizes}
use Rattle.glass_base.specs.Items.{area_of}
use Rattle.glass_base.specs.Plates.{Width}
use Rattle.glass_base.specs.Problem.{IsMadeOf, IsProblem, Problem}
use Rattle.glass_base.specs.declared.instance.BadInstance.{BadInstance}
use Rattle.glass_base.specs.declared.instance.BadInstance.TheVariants.{Memory}
use Rattle.glass_base.specs.declared.item.Defect.{Defect}
use Rattle.glass_base.specs.declared.item.Item.{Item}
use Rattle.glass_base.proofs.Refusals.{allowed_is_not_refused}
use Rattle.glass_base.specs.declared.params.Params.{Params}
use Rattle.cut_model.specs.Families.{rows_of}
use Rattle.cut_model.specs.Lawful.{IsLawful}
use Rattle.cut_model.specs.Loss.{waste_of}
use Rattle.cut_model.specs.Order.{cut_order}
use Rattle.cut_model.specs.Tree.{Forest, nothing, piece, neighbour_count}
use Rattle.plan_freeze.specs.Frozen.{first_plates, joined, later_plates}
use Rattle.plan_freeze.specs.Rests.{IsRest, defects_from, frozen_loss, items_among, items_besides, numbers_frozen}
use Rattle.plan_freeze.specs.inner.Wasted.{waste_before}
use Rattle.plan_freeze.specs.inner.Widths.{AreWidthsFrom}
use Rattle.plan_freeze.proofs.Forests.{first_count, parted, some_behind}
use Rattle.plan_freeze.proofs.ListsLeft.{makes_instance}
use Rattle.plan_freeze.proofs.LossesLeft.{first_loss}
use Rattle.plan_freeze.proofs.RowsShifted.{whole_plates}
use Rattle.plan_freeze.proofs.SomeLeft.{first_kept, some_left}
use Rattle.plan_freeze.proofs.WidthsLeft.{width_left}
use Rattle.plan_freeze.proofs.Wholes.{IsBehind, first_rows}

-- a lawful plan has no plate too many
pub plates_within : (b : Problem) (plan : Forest) → IsLawful b plan → neighbour_count plan ≤ b.params.plates
plates_within b plan lawful = omega (arith, lawful.order.few_plates, whole_plates b plan)

some_items : (b : Problem) (first old : Forest) → 1 ≤ neighbour_count old → IsLawful b (joined first old) → 1 ≤ length (items_besides (numbers_frozen b (joined first old) (neighbour_count first)) b.items)
some_items b first nothing some lawful = absurd (omega (arith, some))
some_items b first (piece s t i m) some lawful =
    subst (λ (numbers : List ℕ). 1 ≤ length (items_besides numbers b.items)) (sym (ap cut_order (first_kept b first s t i m))) (some_left b first s t i m lawful)

-- an item is left
pub items_left : (b : Problem) (plan : Forest) (k : ℕ) → IsLawful b plan → k < neighbour_count plan → 1 ≤ length (items_besides (numbers_frozen b plan k) b.items)
items_left b plan k lawful lt =
    let whole : joined (first_plates k plan) (later_plates k plan) ≡ plan = parted k plan in
    let many : neighbour_count (first_plates k plan) ≡ k = first_count k plan (omega (arith, lt)) in
    let some = some_items b (first_plates k plan) (later_plates k plan) (some_behind k plan lt) (subst (IsLawful b) (sym whole) lawful) in
    rw (whole, many) at some

-- parameters with so many plates less
fewer_plates : (p : Params) (k : ℕ) → k < p.plates → Params
fewer_plates p k lt = record p {
  plates = p.plates - k;
  accepted = record {
    some_plate = omega (arith, lt);
    wide = p.accepted.wide;
    high = p.accepted.high;
    waste_positive = p.accepted.waste_positive;
    waste_min1 = p.accepted.waste_min1;
    min1_max1 = p.accepted.min1_max1;
    waste_min2 = p.accepted.waste_min2;
    min2_height = p.accepted.min2_height;
    few_plates = omega (arith, p.accepted.few_plates);
    width_limit = p.accepted.width_limit;
    height_limit = p.accepted.height_limit;
    max1_limit = p.accepted.max1_limit;
  };
}

-- an instance as it is left, but for its stacks, which no loss asks for
left_problem : (b : Problem) (plan : Forest) → neighbour_count plan < b.params.plates → Problem
left_problem b plan lt = record {
  params = fewer_plates b.params (neighbour_count plan) lt;
  items = items_besides (cut_order (first_rows b plan)) b.items;
  defects = defects_from (neighbour_count plan) b.defects;
  widths = drop (neighbour_count plan) b.widths;
  stacks = b.stacks;
}

left_behind : (b : Problem) (plan : Forest) (lt : neighbour_count plan < b.params.plates) → IsBehind b (left_problem b plan lt) plan
unfolding Width left_problem fewer_plates
left_behind b plan lt = record {
  items_are = refl;
  defects_are = refl;
  widths_are = λ plate.
      let k : ℕ = neighbour_count plan in
      let same : k + plate ≡ plate + k = omega arith in
      get_or-drop k b.widths plate b.params.width ∙ ap (λ (n : ℕ). get_or b.widths n b.params.width) same;
  params_are = record { plates_is = refl; width_is = refl; height_is = refl; min1_is = refl; max1_is = refl; min2_is = refl; waste_is = refl };
}

wasted_first : (b : Problem) (first old : Forest) → IsProblem b → 1 ≤ neighbour_count old → IsLawful b (joined first old) → neighbour_count first < b.params.plates →
    waste_before (neighbour_count first) (rows_of b (joined first old)) ≡ frozen_loss b (joined first old) (neighbour_count first)
wasted_first b first nothing rules some lawful lt = absurd (omega (arith, some))
wasted_first b first (piece s t i m) rules some lawful lt =
    let kept = first_kept b first s t i m in
    omega (
      arith,
      first_loss b (left_problem b first lt) first s t i m rules (left_behind b first lt) lawful,
      ap waste_of kept,
      ap (λ (numbers : List ℕ). area_of (items_among numbers b.items)) (ap cut_order kept),
    )

-- what the first plates waste is what they lose
pub waste_frozen : (b : Problem) (plan : Forest) (k : ℕ) → IsProblem b → IsLawful b plan → k < neighbour_count plan → waste_before k (rows_of b plan) ≡ frozen_loss b plan k
waste_frozen b plan k rules lawful lt =
    let whole : joined (first_plates k plan) (later_plates k plan) ≡ plan = parted k plan in
    let many : neighbour_count (first_plates k plan) ≡ k = first_count k plan (omega (arith, lt)) in
    let within = plates_within b plan lawful in
    let all = wasted_first b (first_plates k plan) (later_plates k plan) rules (some_behind k plan lt) (subst (IsLawful b) (sym whole) lawful) (omega (arith, many, within, lt)) in
    rw (whole, many) at all

-- the instance that was made of what is left
pub rest_made : (b left : Problem) (plan : Forest) (k : ℕ) (params : Params) (items : List Item) (defects : List Defect) (widths : List ℕ) → IsProblem b → k ≤ b.params.plates →
    items ≡ items_besides (numbers_frozen b plan k) b.items → defects ≡ defects_from k b.defects → AreWidthsFrom b k widths →
    HasSizes params (b.params.plates - k) b.params.width b.params.height b.params.min1 b.params.max1 b.params.min2 b.params.waste → IsMadeOf left params items defects widths → IsRest b plan k left
rest_made b left plan k params items defects widths rules le items_are defects_are from sizes made = record {
  items_are = made.items_is ∙ items_are;
  defects_are = made.defects_is ∙ defects_are;
  widths_are = width_left b left k rules le (subst (AreWidthsFrom b k) (sym made.widths_are) from) (ap (λ (p : Params). p.width) made.params_is ∙ sizes.width_is);
  params_are = subst (λ (p : Params). HasSizes p (b.params.plates - k) b.params.width b.params.height b.params.min1 b.params.max1 b.params.min2 b.params.waste) (sym made.params_is) sizes;
  rules = made.rules;
}

-- what is left is refused for want of memory alone
pub rest_not_refused : (b : Problem) (plan : Forest) (k : ℕ) (items : List Item) (defects : List Defect) (reason : BadInstance) → IsProblem b → IsLawful b plan → k < neighbour_count plan →
    items ≡ items_besides (numbers_frozen b plan k) b.items → defects ≡ defects_from k b.defects → RefusesLists reason items defects → reason ≡ Memory
rest_not_refused b plan k items defects reason rules lawful lt items_are defects_are refuses =
    allowed_is_not_refused items defects reason (rw (items_are, defects_are) (makes_instance b k (numbers_frozen b plan k) rules (items_left b plan k lawful lt))) refuses
