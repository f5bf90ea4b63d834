-- What a plan loses on its first plates and behind them.
use Rattle.std.proofs.Common.{◌≡◌, ℕ, zero, suc, ◌+◌, ◌*◌, inl, inr, List, [], ◌∷◌, map, get_or, Bool, true, false, not, ◌&&◌, refl, sym, ap, subst, ◌∙◌, arith, All, AllPairs, Option, None}
use Rattle.std.specs.Prelude.{find}
use Rattle.std.specs.Option.{option_map_or}
use Rattle.std.proofs.lemmas.Bool.{cases_Bool, false≢true}
use Rattle.std.proofs.Math.Nat.{mul-add}
use Rattle.std.proofs.lemmas.List.Kept.{AllPairs-filter}
use Rattle.std.proofs.lemmas.List.Elements.{All-append, All-cons, All-head, All-map, All-nil, All-tail, All-weaker}
use Rattle.glass_base.specs.Items.{DifferentIds, area_of}
use Rattle.glass_base.specs.Plates.{Before, Width}
use Rattle.glass_base.specs.Problem.{Problem, IsProblem}
use Rattle.glass_base.specs.declared.item.Item.{Item}
use Rattle.glass_base.proofs.PlateLemmas.{before-next, before-zero}
use Rattle.cut_model.specs.declared.family.Along.{Along}
use Rattle.cut_model.specs.declared.family.Area.{Area}
use Rattle.cut_model.specs.declared.family.Family.{Family}
use Rattle.cut_model.specs.declared.family.Row.{Row}
use Rattle.cut_model.specs.declared.family.Sort.{Sort}
use Rattle.cut_model.specs.Families.{behind, families, families_of, family_with, first_plate, inside, moved, rows_of}
use Rattle.cut_model.specs.Lawful.{IsLawful}
use Rattle.cut_model.specs.Loss.{loss_of, names_residual, residual_width, waste_of}
use Rattle.cut_model.specs.Order.{cut_order}
use Rattle.cut_model.specs.Rules.{IsInPlace, KeepsCutRules}
use Rattle.cut_model.specs.Tree.{Forest, nothing, piece, children_in, count, is_nothing, neighbour_count, type_number}
use Rattle.cut_model.proofs.Places.{plate_at}
use Rattle.loss_area.proofs.Areas.{All-both, first_residual, residual_behind, residual_in}
use Rattle.loss_area.proofs.Conserved.{KeepsSum}
use Rattle.loss_area.proofs.Plates.{KeepsPlace, plates_area}
use Rattle.loss_area.proofs.Served.{KeepsSides, served_area}
use Rattle.loss_area.proofs.Wasting.{waste_of-append}
use Rattle.plan_freeze.specs.Frozen.{joined}
use Rattle.plan_freeze.specs.Rests.{is_among, items_among}
use Rattle.plan_freeze.proofs.Beginning.{frozen_families}
use Rattle.plan_freeze.proofs.ItemsLeft.{areas_apart}
use Rattle.plan_freeze.proofs.RowsShifted.{waste_shifted}
use Rattle.plan_freeze.proofs.Shifted.{shifted_row}
use Rattle.plan_freeze.proofs.Wholes.{IsBehind, families_whole, first_rows, lawful_left, rows_whole}

-- a piece that ends nothing, by its type and its row
record EndsNothing (f : Family) : Type 0 where
  pub goes_on : f.ends ≡ false
  pub kind_is : f.row.kind ≡ type_number f.sort

same_last : (along : Along) (at : Area) (size : ℕ) → (moved along at size).last ≡ at.last
same_last Along.Plates at size = refl
same_last Along.X at size = refl
same_last Along.Y at size = refl

-- no piece inside a plate that others stand behind ends the plan
goes_on : (at : Area) (first : Bool) (node : ℕ) (forest : Forest) → at.last ≡ false → All EndsNothing (families at first node forest)
unfolding families
goes_on at first node nothing last = All-nil EndsNothing
goes_on at first node (piece size sort inner later) last =
    let f : Family = family_with at first (is_nothing later) node size sort (children_in inner) in
    let here : f.ends ≡ false = ap (λ (t : Bool). t && is_nothing later) last in
    All-cons EndsNothing f _ (record { goes_on = here; kind_is = refl })
    (All-append EndsNothing _ _ (goes_on (inside f) true (node + 1) inner here) (goes_on (behind at size) false (node + 1 + count inner) later (same_last at.along at size ∙ last)))

frozen_go_on : (b : Problem) (plate : ℕ) (first : Bool) (node : ℕ) (plan : Forest) → All EndsNothing (frozen_families b plate first node plan)
unfolding frozen_families
frozen_go_on b plate first node nothing = All-nil EndsNothing
frozen_go_on b plate first node (piece size sort inner later) =
    let f : Family = family_with (plate_at b plate) first false node (Width b plate) sort (children_in inner) in
    All-cons EndsNothing f _ (record { goes_on = refl; kind_is = refl })
    (All-append EndsNothing _ _ (goes_on (inside f) true (node + 1) inner refl) (frozen_go_on b (plate + 1) false (node + 1 + count inner) later))

-- such a piece is no residual
no_residual : (f : Family) (sort : Sort) → f.ends ≡ false → IsInPlace f sort → names_residual (type_number sort) ≡ false
no_residual f (Sort.Item number) on h = refl
no_residual f Sort.Waste on h = refl
no_residual f Sort.Branch on h = refl
no_residual f Sort.Residual on h = absurd (false≢true (sym on ∙ h.1))

find_none : {X : Type 0} (p : X → Bool) (xs : List X) → All (λ x. p x ≡ false) xs → find p xs ≡ None
find_none p [] h = refl
find_none {X} p (x ∷ xs) h =
    let here : p x ≡ false = All-head (λ (y : X). p y ≡ false) x xs h in
    rw here (find_none p xs (All-tail (λ (y : X). p y ≡ false) x xs h))

-- the first plates have no residual
first_without : (b : Problem) (plan : Forest) → All (KeepsCutRules b) (frozen_families b 0 true 0 plan) → first_residual (first_rows b plan) ≡ None
first_without b plan keeps =
    let fs : List Family = frozen_families b 0 true 0 plan in
    let on = frozen_go_on b 0 true 0 plan in
    let none : All (λ (f : Family). names_residual f.row.kind ≡ false) fs =
    λ i d lt. rw (on i d lt).kind_is (no_residual (get_or fs i d) (get_or fs i d).sort (on i d lt).goes_on (keeps i d lt).l6) in
    find_none (λ (r : Row). names_residual r.kind) (first_rows b plan) (All-map (λ (r : Row). names_residual r.kind ≡ false) (λ (f : Family). f.row) fs none)

residual_shifted : (k n : ℕ) (rs : List Row) → residual_in (map (shifted_row k n) rs) ≡ residual_in rs
residual_shifted k n [] = refl
residual_shifted k n (r ∷ rs) = elim (cases_Bool (names_residual r.kind)) [
  | inl is ↦ rw is refl
  | inr isnt ↦ rw isnt (residual_shifted k n rs)
]

-- the widths before a plate behind the first ones
before_left : (b rest : Problem) (k : ℕ) → ((plate : ℕ) → Width rest plate ≡ Width b (plate + k)) → (plate : ℕ) → Before b (plate + k) ≡ Before b k + Before rest plate
before_left b rest k widths zero =
    let same : zero + k ≡ k = omega arith in
    omega (arith, ap (Before b) same, before-zero rest)
before_left b rest k widths (suc plate) =
    let next : suc plate + k ≡ plate + k + 1 = omega arith in
    let one : suc plate ≡ plate + 1 = omega arith in
    omega (arith, ap (Before b) next, ap (Before rest) one, before-next b (plate + k), before-next rest plate, widths plate, before_left b rest k widths plate)

pub plates_joined : (plan tail : Forest) → neighbour_count (joined plan tail) ≡ neighbour_count tail + neighbour_count plan
plates_joined nothing tail = omega arith
plates_joined (piece size sort inner later) tail = omega (arith, plates_joined later tail)

-- a plan loses what its first plates lose and what those behind lose
pub losses_joined : (b rest : Problem) (plan : Forest) (size : ℕ) (sort : Sort) (inner more : Forest) → IsBehind b rest plan →
    loss_of b (joined plan (piece size sort inner more)) ≡ waste_of (first_rows b plan) + loss_of rest (piece size sort inner more)
losses_joined b rest plan size sort inner more behind =
    let tail : Forest = piece size sort inner more in
    let k : ℕ = neighbour_count plan in
    let n : ℕ = count plan in
    omega (
      arith,
      ap waste_of (rows_whole b rest plan size sort inner more behind),
      waste_of-append (first_rows b plan) (map (shifted_row k n) (rows_of rest tail)),
      waste_shifted k n (rows_of rest tail),
    )

-- the loss, the area of the residual and that of the items make up the area of the plates; it needs no more of the instance than that its items
-- have different numbers
balance : (b : Problem) (plan : Forest) → AllPairs DifferentIds b.items → IsLawful b plan → loss_of b plan + b.params.height * residual_width b plan + area_of b.items ≡ b.params.height * Before b (neighbour_count plan)
balance b plan apart lawful =
    let fs : List Family = families_of b plan in
    let sums : All KeepsSum fs = All-weaker (KeepsCutRules b) KeepsSum (λ f keeps. keeps.l1) fs lawful.cuts in
    let places : All KeepsPlace fs = All-weaker (KeepsCutRules b) KeepsPlace (λ f keeps. keeps.l6) fs lawful.cuts in
    let sides : All (KeepsSides b.items) fs = All-weaker (KeepsCutRules b) (KeepsSides b.items) (λ f keeps. keeps.l2) fs lawful.cuts in
    let same : 0 + neighbour_count plan ≡ neighbour_count plan = omega arith in
    omega (
      arith,
      plates_area b 0 (first_plate b) true 0 plan refl lawful.shape sums places,
      ap (λ n. b.params.height * n) (before-zero b),
      ap (λ n. b.params.height * Before b n) same,
      served_area b.items b plan apart sides lawful.order.each_once,
    )

-- the first plates of a lawful plan lose all of their glass but their items
pub first_loss : (b rest : Problem) (plan : Forest) (size : ℕ) (sort : Sort) (inner more : Forest) → IsProblem b → IsBehind b rest plan → IsLawful b (joined plan (piece size sort inner more)) →
    waste_of (first_rows b plan) + area_of (items_among (cut_order (first_rows b plan)) b.items) ≡ b.params.height * Before b (neighbour_count plan)
first_loss b rest plan size sort inner more rules behind lawful =
    let tail : Forest = piece size sort inner more in
    let whole : Forest = joined plan tail in
    let k : ℕ = neighbour_count plan in
    let n : ℕ = count plan in
    let h : ℕ = b.params.height in
    let left : IsLawful rest tail = lawful_left b rest plan size sort inner more behind lawful in
    let kept : Item → Bool = λ (item : Item). not (is_among (cut_order (first_rows b plan)) item) in
    let apart : AllPairs DifferentIds rest.items = rw behind.items_are (AllPairs-filter DifferentIds kept b.items rules.ids) in
    let keeps : All (KeepsCutRules b) (frozen_families b 0 true 0 plan) =
    (All-both (KeepsCutRules b) (frozen_families b 0 true 0 plan) _ (subst (All (KeepsCutRules b)) (families_whole b rest plan size sort inner more behind) lawful.cuts)).0 in
    let residual : residual_width b whole ≡ residual_width rest tail =
    ap residual_in (rows_whole b rest plan size sort inner more behind)
    ∙ ap (λ (o : Option Row). option_map_or (λ (r : Row). r.width) o 0) (residual_behind (first_rows b plan) (map (shifted_row k n) (rows_of rest tail)) (first_without b plan keeps))
    ∙ residual_shifted k n (rows_of rest tail) in
    let width : Before b (neighbour_count whole) ≡ Before b k + Before rest (neighbour_count tail) = ap (Before b) (plates_joined plan tail) ∙ before_left b rest k behind.widths_are (neighbour_count tail) in
    let glass : h * Before b (neighbour_count whole) ≡ h * Before b k + h * Before rest (neighbour_count tail) = ap (λ (w : ℕ). h * w) width ∙ mul-add h (Before b k) (Before rest (neighbour_count tail)) in
    let mine : loss_of b whole + h * residual_width b whole + area_of b.items ≡ h * Before b (neighbour_count whole) = balance b whole rules.ids lawful in
    let behind_it : loss_of rest tail + h * residual_width rest tail + area_of rest.items ≡ h * Before rest (neighbour_count tail) =
    subst (λ (m : ℕ). loss_of rest tail + m * residual_width rest tail + area_of rest.items ≡ m * Before rest (neighbour_count tail)) behind.params_are.height_is (balance rest tail apart left) in
    omega (
      arith,
      mine,
      behind_it,
      glass,
      ap (λ (w : ℕ). h * w) residual,
      losses_joined b rest plan size sort inner more behind,
      areas_apart (cut_order (first_rows b plan)) b.items,
      ap area_of behind.items_are,
    )
