-- The rows of a plan's first plates are those on plates before the others, and behind them there are items.
use Rattle.std.proofs.Common.{◌≡◌, ℕ, zero, suc, ◌+◌, ◌<◌, ◌≤◌, ◌==◌, inl, inr, List, [], ◌∷◌, ◌++◌, filter, length, Bool, true, false, nat_lt, sym, ap, subst, ◌∙◌, arith, All, Any, Contains, Option, Some, None, IsSome}
use Rattle.std.specs.List.{cons_option}
use Rattle.std.proofs.lemmas.Bool.Decides.{nat_tests}
use Rattle.std.proofs.lemmas.List.{append-nil, length-map, map-append}
use Rattle.std.proofs.lemmas.List.Elements.{All-contains, All-head, All-map, All-weaker, filter-append, filter_map-append}
use Rattle.glass_base.proofs.Pairs.{contained_first, contained_later}
use Rattle.glass_base.specs.Problem.{Problem}
use Rattle.glass_base.specs.declared.item.Item.{Item}
use Rattle.cut_model.specs.declared.family.Family.{Family}
use Rattle.cut_model.specs.declared.family.Row.{Row}
use Rattle.cut_model.specs.declared.family.Sort.{Sort}
use Rattle.cut_model.specs.Families.{families, rows_of}
use Rattle.cut_model.specs.Lawful.{CutsEachOnce, IsItemOn, IsLawful, plate_rows}
use Rattle.cut_model.specs.Order.{cut_order, item_named}
use Rattle.cut_model.specs.Sized.{sized}
use Rattle.cut_model.specs.Tree.{Forest, piece, count, neighbour_count}
use Rattle.cut_model.proofs.Places.{plate_at}
use Rattle.loss_area.proofs.Areas.{All-both}
use Rattle.plan_freeze.specs.Frozen.{joined}
use Rattle.plan_freeze.specs.Rests.{items_besides}
use Rattle.plan_freeze.proofs.Beginning.{families_joined, first_behind, frozen_before, frozen_families, tail_from}
use Rattle.plan_freeze.proofs.ItemsLeft.{ids, once_left}
use Rattle.plan_freeze.proofs.Lists.{any_cases, any_none, filter_all, filter_none}
use Rattle.plan_freeze.proofs.RowsShifted.{rows}

-- the rows of the plates behind the first ones
abbrev rows_behind : Problem → Forest → Forest → List Row
rows_behind b plan tail = rows (families (plate_at b (0 + neighbour_count plan)) (first_behind plan true) (0 + count plan) (sized b (0 + neighbour_count plan) tail))

rows_parted : (b : Problem) (plan : Forest) (size : ℕ) (sort : Sort) (inner more : Forest) →
    rows_of b (joined plan (piece size sort inner more)) ≡ rows (frozen_families b 0 true 0 plan) ++ rows_behind b plan (piece size sort inner more)
rows_parted b plan size sort inner more = ap rows (families_joined b 0 true 0 plan size sort inner more) ∙ map-append (λ (f : Family). f.row) (frozen_families b 0 true 0 plan) _

before_rows : (b : Problem) (plan : Forest) → All (λ r. r.plate < neighbour_count plan) (rows (frozen_families b 0 true 0 plan))
before_rows b plan = All-map (λ (r : Row). r.plate < neighbour_count plan) (λ (f : Family). f.row) (frozen_families b 0 true 0 plan) (frozen_before b 0 true 0 plan (neighbour_count plan) (omega arith))

behind_rows : (b : Problem) (plan tail : Forest) → All (λ r. neighbour_count plan ≤ r.plate) (rows_behind b plan tail)
behind_rows b plan tail =
    let k : ℕ = neighbour_count plan in
    All-map (λ (r : Row). k ≤ r.plate) (λ (f : Family). f.row) (families (plate_at b (0 + k)) (first_behind plan true) (0 + count plan) (sized b (0 + k) tail))
    (tail_from b (0 + k) (first_behind plan true) (0 + count plan) tail k (omega arith))

-- the rows on plates before the others
pub first_kept : (b : Problem) (plan : Forest) (size : ℕ) (sort : Sort) (inner more : Forest) →
    filter (λ row. nat_lt row.plate (neighbour_count plan)) (rows_of b (joined plan (piece size sort inner more))) ≡ rows (frozen_families b 0 true 0 plan)
first_kept b plan size sort inner more =
    let k : ℕ = neighbour_count plan in
    let test : Row → Bool = λ (r : Row). nat_lt r.plate k in
    let first : List Row = rows (frozen_families b 0 true 0 plan) in
    let behind : List Row = rows_behind b plan (piece size sort inner more) in
    let yes : All (λ (r : Row). test r ≡ true) first = All-weaker (λ (r : Row). r.plate < k) (λ (r : Row). test r ≡ true) (λ r lt. is_lt r.plate k lt) first (before_rows b plan) in
    let no : All (λ (r : Row). test r ≡ false) behind = All-weaker (λ (r : Row). k ≤ r.plate) (λ (r : Row). test r ≡ false) (λ r le. not_lt r.plate k le) behind (behind_rows b plan (piece size sort inner more)) in
    ap (filter test) (rows_parted b plan size sort inner more) ∙ filter-append test first behind
    ∙ ap (λ (l : List Row). l ++ filter test behind) (filter_all test first yes)
    ∙ ap (λ (l : List Row). first ++ l) (filter_none test behind no) ∙ append-nil first
  where
    is_lt : (m n : ℕ) → m < n → nat_lt m n ≡ true
    is_lt m n lt = grind (arith, nat_tests)

    not_lt : (m n : ℕ) → n ≤ m → nat_lt m n ≡ false
    not_lt m n le = grind (arith, nat_tests)

-- an item row names an item that is cut
some_cut : (rs : List Row) → Any (λ r. IsSome (item_named r.kind)) rs → (n : ℕ) × Contains (cut_order rs) n
some_cut [] (k, r, lt, is, named) = absurd (omega (arith, lt))
some_cut (r ∷ rs) (zero, x, lt, is, named) = by (item_named r.kind) (subst (λ (y : Row). IsSome (item_named y.kind)) (sym is) named)
  where
    by : (o : Option ℕ) → IsSome o → (n : ℕ) × Contains (cons_option o (cut_order rs)) n
    by None some = absurd (cc)
    by (Some n) some = (n, contained_first n (cut_order rs))
some_cut (r ∷ rs) (suc k, x, lt, is, named) = by (item_named r.kind) (some_cut rs (k, x, omega (arith, lt), is, named))
  where
    by : (o : Option ℕ) → (n : ℕ) × Contains (cut_order rs) n → (n : ℕ) × Contains (cons_option o (cut_order rs)) n
    by None h = h
    by (Some m) h = (h.0, contained_later m (cut_order rs) h.0 h.1)

-- the first of the plates behind has an item
behind_used : (b : Problem) (plan : Forest) (size : ℕ) (sort : Sort) (inner more : Forest) → IsLawful b (joined plan (piece size sort inner more)) → Any (IsItemOn (0 + neighbour_count plan)) (rows_behind b plan (piece size sort inner more))
unfolding families
behind_used b plan size sort inner more lawful =
    let k : ℕ = neighbour_count plan in
    let first : List Row = rows (frozen_families b 0 true 0 plan) in
    let behind : List Row = rows_behind b plan (piece size sort inner more) in
    let whole : List Row = first ++ behind in
    let Used : Row → Type 0 = λ (p : Row). Any (IsItemOn p.plate) whole in
    let used : All Used (plate_rows whole) = subst (λ (rs : List Row). All (λ (p : Row). Any (IsItemOn p.plate) rs) (plate_rows rs)) (rows_parted b plan size sort inner more) lawful.order.each_plate in
    let mine : All Used (plate_rows behind) = (All-both Used (plate_rows first) (plate_rows behind) (subst (All Used) (filter-append (λ (r : Row). r.cut == 0) first behind) used)).1 in
    let here : Any (IsItemOn (0 + k)) whole = All-head Used _ _ mine in
    elim (any_cases (IsItemOn (0 + k)) first behind here) [
      | inl wrong ↦ absurd (any_none (IsItemOn (0 + k)) first (λ i d lt on. omega (arith, before_rows b plan i d lt, on.0)) wrong)
      | inr right ↦ right
    ]

-- so an item is left
pub some_left : (b : Problem) (plan : Forest) (size : ℕ) (sort : Sort) (inner more : Forest) → IsLawful b (joined plan (piece size sort inner more)) →
    1 ≤ length (items_besides (cut_order (rows (frozen_families b 0 true 0 plan))) b.items)
some_left b plan size sort inner more lawful =
    let first : List Row = rows (frozen_families b 0 true 0 plan) in
    let behind : List Row = rows_behind b plan (piece size sort inner more) in
    let left : List Item = items_besides (cut_order first) b.items in
    let on = behind_used b plan size sort inner more lawful in
    let named : Any (λ (r : Row). IsSome (item_named r.kind)) behind = (on.0, on.1, on.2, on.3, on.4.1) in
    let cut = some_cut behind named in
    let split : cut_order (rows_of b (joined plan (piece size sort inner more))) ≡ cut_order first ++ cut_order behind =
    ap cut_order (rows_parted b plan size sort inner more) ∙ filter_map-append (λ (r : Row). item_named r.kind) first behind in
    let once : CutsEachOnce left (cut_order behind) = once_left b.items (cut_order first) (cut_order behind) (subst (CutsEachOnce b.items) split lawful.order.each_once) in
    let is : Contains (ids left) cut.0 = All-contains (Contains (ids left)) (cut_order behind) cut.0 once.known cut.1 in
    omega (arith, is.1, length-map left (λ (item : Item). item.id))
