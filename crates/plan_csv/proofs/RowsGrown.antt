-- How many pieces grow from rows: at most as many as there are rows.
use Rattle.std.proofs.Common.{◌≡◌, ◌<◌, ◌≤◌, ◌+◌, ◌==◌, ℕ, zero, suc, List, [], ◌∷◌, length, Bool, true, false, cond, filter, All, map, inl, inr, ◌⊎◌, refl, sym, subst, ap, ◌∙◌, arith}
use Rattle.std.proofs.lemmas.Bool.{cases_Bool, eq-eqb, eqb-true, or_cases, or_parts}
use Rattle.std.proofs.lemmas.Bool.Decides.{nat_tests}
use Rattle.std.proofs.lemmas.List.{length-map}
use Rattle.std.proofs.lemmas.List.Elements.{All-filter, filter_passes, All-head, All-tail, All-weaker}
use Rattle.std.proofs.lemmas.List.Sums.{count_by-le-length, length-filter}
use Rattle.std.proofs.lemmas.Map.Steps.{length-le_from_distinct_below}
use Rattle.std.proofs.Math.Dec.{eqb}
use Rattle.std.specs.List.{AllByRecursion, IsDistinct, list_any}
use Rattle.std.specs.Prelude.{Option, Some, None, nat_le}
use Rattle.cut_model.specs.declared.family.Row.{Row}
use Rattle.cut_model.specs.Parents.{is_number, rows_in}
use Rattle.cut_model.specs.Tree.{count}
use Rattle.plan_csv.specs.PlanTexts.{grown}

-- whether one of the rows has this node number
abbrev pub has_number : ℕ → List Row → Bool
has_number n rows = list_any (λ e. e.node == n) rows

-- no two of the rows have one node number
abbrev pub AreApart : List Row → Type 0
AreApart [] = Unit {0}
AreApart (r ∷ rows) = (has_number r.node rows ≡ false) × AreApart rows

-- the sum of a number over rows
abbrev pub total_of : (Row → ℕ) → List Row → ℕ
total_of f [] = 0
total_of f (r ∷ rows) = f r + total_of f rows

-- the rows that a cut of this level makes
abbrev pub at_cut : ℕ → List Row → List Row
at_cut level rows = filter (λ r. r.cut == level) rows

-- the rows that a cut of this level or a later one makes
abbrev pub from_cut : ℕ → List Row → List Row
from_cut level rows = filter (λ r. nat_le level r.cut) rows

-- what a row of this number has of a value that belongs to the row with the number of a parent
abbrev share : ℕ → Option ℕ → ℕ → ℕ
share n parent v = cond (is_number n parent) v 0

-- where no row has the number, none has a share
no_share : (some : List Row) (n v : ℕ) → has_number n some ≡ false → total_of (λ e. share e.node (Some n) v) some ≡ 0
no_share [] n v h = refl
no_share (e ∷ some) n v h =
    let k = or_parts (e.node == n) (has_number n some) h in
    let other : (n == e.node) ≡ false = grind (arith, nat_tests) in
    rw other (omega (arith, no_share some n v k.1))

-- rows whose numbers differ have one share together, and only where this holds of the row that has it
one_share : (some : List Row) (parent : Option ℕ) (v : ℕ) (b : Bool) → AreApart some → All (λ e. is_number e.node parent ≡ true → b ≡ true) some
    → total_of (λ e. share e.node parent v) some ≤ cond b v 0
one_share [] parent v b apart h = omega arith
one_share (e ∷ some) None v b apart h = omega (arith, one_share some None v b apart.1 (All-tail (λ x. is_number x.node None ≡ true → b ≡ true) e some h))
one_share (e ∷ some) (Some n) v b apart h =
    let P : Row → Type 0 = λ x. is_number x.node (Some n) ≡ true → b ≡ true in
    by (cases_Bool (n == e.node)) (All-head P e some h) (one_share some (Some n) v b apart.1 (All-tail P e some h))
  where
    by : ((n == e.node) ≡ true) ⊎ ((n == e.node) ≡ false) → (is_number e.node (Some n) ≡ true → b ≡ true)
        → total_of (λ x. share x.node (Some n) v) some ≤ cond b v 0 → total_of (λ x. share x.node (Some n) v) (e ∷ some) ≤ cond b v 0
    by (inl same) here later =
        let is : e.node ≡ n = sym (eqb-true n e.node same) in
        rw (same, here same) (omega (arith, no_share some n v (subst (λ (m : ℕ). has_number m some ≡ false) is apart.0)))
    by (inr other) here later = rw other (omega (arith, later))

-- one more row in front of the rows of which those in a piece are summed up
sum_more : (f : Row → ℕ) (b : Bool) (r : Row) (rows : List Row) → total_of f (cond b (r ∷ rows) rows) ≡ cond b (f r) 0 + total_of f rows
sum_more f true r rows = refl
sum_more f false r rows = omega arith

-- so it is in each of some pieces
sums_more : (f : Row → ℕ) (some : List Row) (r : Row) (rows : List Row) → total_of (λ e. total_of f (rows_in e.node (r ∷ rows))) some
    ≡ total_of (λ e. share e.node r.parent (f r)) some + total_of (λ e. total_of f (rows_in e.node rows)) some
sums_more f [] r rows = refl
sums_more f (e ∷ some) r rows = omega (arith, sum_more f (is_number e.node r.parent) r (rows_in e.node rows), sums_more f some r rows)

-- what holds of all rows of a list that may begin with this one
all_more : (P : Row → Type 0) (b : Bool) (r : Row) (rows : List Row) → All P (cond b (r ∷ rows) rows) → (b ≡ true → P r) × All P rows
all_more P true r rows h = (λ e. All-head P r rows h, All-tail P r rows h)
all_more P false r rows h = (λ e. cc e, h)

-- the sums over the rows in each piece, together, are at most the sum over the rows of the next level
pub sums_inside : (f : Row → ℕ) (next : ℕ) (some rows : List Row) → AreApart some → All (λ e. All (λ r. r.cut ≡ next) (rows_in e.node rows)) some
    → total_of (λ e. total_of f (rows_in e.node rows)) some ≤ total_of f (at_cut next rows)
sums_inside f next some [] apart h = nothing_inside some
  where
    nothing_inside : (some : List Row) → total_of (λ e. 0) some ≤ 0
    nothing_inside [] = omega arith
    nothing_inside (e ∷ some) = omega (arith, nothing_inside some)
sums_inside f next some (r ∷ rows) apart h =
    let P : Row → Type 0 = λ x. x.cut ≡ next in
    let here : All (λ e. is_number e.node r.parent ≡ true → (r.cut == next) ≡ true) some =
    All-weaker (λ e. All P (rows_in e.node (r ∷ rows))) (λ e. is_number e.node r.parent ≡ true → (r.cut == next) ≡ true)
    (λ e k is. eq-eqb r.cut next ((all_more P (is_number e.node r.parent) r (rows_in e.node rows) k).0 is)) some h in
    let later : All (λ e. All P (rows_in e.node rows)) some =
    All-weaker (λ e. All P (rows_in e.node (r ∷ rows))) (λ e. All P (rows_in e.node rows))
    (λ e k. (all_more P (is_number e.node r.parent) r (rows_in e.node rows) k).1) some h in
    omega (
      arith,
      sums_more f some r rows,
      one_share some r.parent (f r) (r.cut == next) apart here,
      sums_inside f next some rows apart later,
      sum_more f (r.cut == next) r (at_cut next rows),
    )

-- a row with all that is cut from it, down to this depth
abbrev weight : ℕ → List Row → Row → ℕ
weight zero rows r = 1
weight (suc depth) rows r = 1 + count (grown depth rows (rows_in r.node rows))

-- the pieces, one by one
count_is : (depth : ℕ) (rows some : List Row) → count (grown depth rows some) ≡ total_of (weight depth rows) some
count_is zero rows [] = refl
count_is zero rows (r ∷ some) = omega (arith, count_is zero rows some)
count_is (suc depth) rows [] = refl
count_is (suc depth) rows (r ∷ some) = omega (arith, count_is (suc depth) rows some)

-- rows of one level and those of later ones are all from this level on
levels_apart : (level : ℕ) (rows : List Row) → length (at_cut level rows) + length (from_cut (level + 1) rows) ≤ length (from_cut level rows)
levels_apart level [] = omega arith
levels_apart level (r ∷ rows) = by (r.cut == level) (nat_le (level + 1) r.cut) (nat_le level r.cut) (tests level r.cut) (at_cut level rows) (from_cut (level + 1) rows) (from_cut level rows) (levels_apart level rows)
  where
    tests : (a b : ℕ) → cond (b == a) 1 0 + cond (nat_le (a + 1) b) 1 0 ≤ cond (nat_le a b) 1 0
    tests a b = grind (arith, nat_tests)

    by : (p q s : Bool) → cond p 1 0 + cond q 1 0 ≤ cond s 1 0 → (xs ys zs : List Row) → length xs + length ys ≤ length zs
        → length (cond p (r ∷ xs) xs) + length (cond q (r ∷ ys) ys) ≤ length (cond s (r ∷ zs) zs)
    by true true true h xs ys zs k = absurd (omega arith)
    by true true false h xs ys zs k = absurd (omega arith)
    by true false true h xs ys zs k = omega arith
    by true false false h xs ys zs k = absurd (omega arith)
    by false true true h xs ys zs k = omega arith
    by false true false h xs ys zs k = absurd (omega arith)
    by false false true h xs ys zs k = omega arith
    by false false false h xs ys zs k = omega arith

-- rows whose numbers differ keep that when some are left out
pub apart_filter : (p : Row → Bool) (rows : List Row) → AreApart rows → AreApart (filter p rows)
apart_filter p [] apart = tt
apart_filter p (r ∷ rows) apart = by (p r) (none_kept r.node rows apart.0) (apart_filter p rows apart.1)
  where
    by : (b : Bool) → has_number r.node (filter p rows) ≡ false → AreApart (filter p rows) → AreApart (cond b (r ∷ filter p rows) (filter p rows))
    by true free kept = (free, kept)
    by false free kept = kept

    none_kept : (n : ℕ) (rows : List Row) → has_number n rows ≡ false → has_number n (filter p rows) ≡ false
    none_kept n [] h = refl
    none_kept n (e ∷ rows) h =
        let k = or_parts (e.node == n) (has_number n rows) h in
        keep (p e) (none_kept n rows k.1) k.0
      where
        keep : (b : Bool) → has_number n (filter p rows) ≡ false → (e.node == n) ≡ false → has_number n (cond b (e ∷ filter p rows) (filter p rows)) ≡ false
        keep true free other = rw other free
        keep false free other = free

-- what is cut from the rows of one level is of the next
level_below : (level : ℕ) (rows : List Row) → All (λ e. All (λ r. r.cut ≡ e.cut + 1) (rows_in e.node rows)) rows
    → All (λ e. All (λ r. r.cut ≡ level + 1) (rows_in e.node rows)) (at_cut level rows)
level_below level rows h =
    let test : Row → Bool = λ e. e.cut == level in
    let Below : Row → Type 0 = λ e. All (λ r. r.cut ≡ e.cut + 1) (rows_in e.node rows) in
    let kept : All Below (at_cut level rows) = All-filter test Below rows h in
    let level_is : All (λ e. test e ≡ true) (at_cut level rows) = filter_passes test rows in
    All-weaker (λ e. Below e × (test e ≡ true)) (λ e. All (λ r. r.cut ≡ level + 1) (rows_in e.node rows))
    (λ e k. All-weaker (λ r. r.cut ≡ e.cut + 1) (λ r. r.cut ≡ level + 1) (λ r is. is ∙ ap (λ n. n + 1) (eqb-true e.cut level k.1)) (rows_in e.node rows) k.0)
    (at_cut level rows) (λ k d lt. (kept k d lt, level_is k d lt))

-- the pieces of one level with what is cut from them are at most the rows from this level on
level_grows : (depth level : ℕ) (rows : List Row) → AreApart rows → All (λ e. All (λ r. r.cut ≡ e.cut + 1) (rows_in e.node rows)) rows
    → count (grown depth rows (at_cut level rows)) ≤ length (from_cut level rows)
level_grows zero level rows apart h =
    omega (arith, count_is zero rows (at_cut level rows), ones (at_cut level rows), levels_apart level rows)
  where
    ones : (some : List Row) → total_of (λ r. 1) some ≡ length some
    ones [] = refl
    ones (r ∷ some) = omega (arith, ones some)
level_grows (suc depth) level rows apart h =
    let some = at_cut level rows in
    let below : All (λ e. All (λ r. r.cut ≡ level + 1) (rows_in e.node rows)) some = level_below level rows h in
    omega (
      arith,
      count_is (suc depth) rows some,
      each some,
      sums_inside (weight depth rows) (level + 1) some rows (apart_filter (λ r. r.cut == level) rows apart) below,
      count_is depth rows (at_cut (level + 1) rows),
      level_grows depth (level + 1) rows apart h,
      levels_apart level rows,
    )
  where
    each : (some : List Row) → total_of (weight (suc depth) rows) some ≡ length some + total_of (λ e. total_of (weight depth rows) (rows_in e.node rows)) some
    each [] = refl
    each (e ∷ some) = omega (arith, each some, count_is depth rows (rows_in e.node rows))

-- the tree of rows has at most as many pieces as there are rows
pub few_grow : (depth level : ℕ) (rows : List Row) → AreApart rows → All (λ e. All (λ r. r.cut ≡ e.cut + 1) (rows_in e.node rows)) rows
    → count (grown depth rows (at_cut level rows)) ≤ length rows
few_grow depth level rows apart h = omega (arith, level_grows depth level rows apart h, length-filter (λ r. nat_le level r.cut) rows, count_by-le-length (λ r. nat_le level r.cut) rows)

-- no row has the number, so no number of a row is equal to it
others : (n : ℕ) (rows : List Row) → has_number n rows ≡ false → AllByRecursion (λ m. eqb n m ≡ false) (map (λ (r : Row). r.node) rows)
others n [] h = tt
others n (e ∷ rows) h =
    let k = or_parts (e.node == n) (has_number n rows) h in
    let other : eqb n e.node ≡ false = grind (arith, nat_tests) in
    (other, others n rows k.1)

-- the numbers of such rows differ
numbers_differ : (rows : List Row) → AreApart rows → IsDistinct eqb (map (λ (r : Row). r.node) rows)
unfolding IsDistinct
numbers_differ [] apart = tt
numbers_differ (r ∷ rows) apart = (others r.node rows apart.0, numbers_differ rows apart.1)

-- numbers of rows lie below what all rows' numbers lie below
number_below : (rows : List Row) (most n : ℕ) → All (λ r. r.node < most) rows → list_any (eqb n) (map (λ (r : Row). r.node) rows) ≡ true → n < most
number_below [] most n h is = cc is
number_below (r ∷ rows) most n h is =
    let P : Row → Type 0 = λ x. x.node < most in
    by (or_cases (eqb n r.node) (list_any (eqb n) (map (λ (x : Row). x.node) rows)) is) (All-head P r rows h) (number_below rows most n (All-tail P r rows h))
  where
    by : (eqb n r.node ≡ true) ⊎ (list_any (eqb n) (map (λ (x : Row). x.node) rows) ≡ true) → r.node < most
        → (list_any (eqb n) (map (λ (x : Row). x.node) rows) ≡ true → n < most) → n < most
    by (inl same) here later = omega (arith, eqb-true n r.node same)
    by (inr there) here later = later there

-- rows whose numbers differ and lie below a bound are at most so many
pub few_rows : (rows : List Row) (most : ℕ) → AreApart rows → All (λ r. r.node < most) rows → length rows ≤ most
few_rows rows most apart h =
    omega (
      arith,
      length-map rows (λ (r : Row). r.node),
      length-le_from_distinct_below (map (λ (r : Row). r.node) rows) most (numbers_differ rows apart) (λ n is. number_below rows most n h is),
    )
