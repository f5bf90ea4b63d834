-- What follows of the widths of plates.
use Rattle.std.proofs.Common.{◌≡◌, ℕ, zero, suc, ◌+◌, ◌*◌, ◌<◌, ◌≤◌, ◌⊎◌, inl, inr, List, [], ◌∷◌, All, fold, length, max, take, get_or, refl, sym, ap, subst, ◌∙◌, arith, add-one, add-zero, add-suc, ◌-◌}
use Rattle.std.specs.Prelude.{min, sum, slice_index}
use Rattle.std.proofs.Math.ListN.{get_or-eq_default}
use Rattle.std.proofs.lemmas.List.Elements.{All-cons, All-get_or, All-head, All-nil, All-tail, All-weaker}
use Rattle.std.proofs.lemmas.List.Sums.{sum_by_more}
use Rattle.glass_base.specs.Plates.{Width, Widest, Before}
use Rattle.glass_base.specs.Problem.{Problem, IsProblem}
use Rattle.glass_base.specs.Widths.{IsWidth}
use Rattle.glass_base.specs.inner.Starts.{AreStarts}
use Rattle.glass_base.specs.declared.limits.TheConstants.{MOST_SIDE}

pub before-zero : (b : Problem) → Before b 0 ≡ 0
unfolding Before
before-zero b = refl

-- the widths before the next plate
pub before-next : (b : Problem) (plate : ℕ) → Before b (plate + 1) ≡ Before b plate + Width b plate
unfolding Before
before-next b plate = rw add-one refl

below_or_not : (m n : ℕ) → (m < n) ⊎ (n ≤ m)
below_or_not m n = grind arith

-- each plate is 1 to 20,000 mm wide
pub width_within : (b : Problem) (plate : ℕ) → IsProblem b → IsWidth (Width b plate)
unfolding Width
width_within b plate h =
    elim (below_or_not plate (length b.widths)) [
      | inl lt ↦ All-get_or IsWidth b.widths plate b.params.width lt h.widths.each
      | inr le ↦ subst IsWidth (sym (get_or-eq_default b.widths b.params.width le)) (b.params.accepted.wide, b.params.accepted.width_limit)
    ]

-- the greatest of a number and a list is at least this number
fold_max_first : (xs : List ℕ) (n : ℕ) → n ≤ fold max n xs
fold_max_first [] n = omega arith
fold_max_first (x ∷ xs) n = omega (arith, fold_max_first xs (max n x))

-- and at least each of the list
fold_max_each : (xs : List ℕ) (n : ℕ) → All (λ x. x ≤ fold max n xs) xs
fold_max_each [] n = All-nil (λ x. x ≤ n)
fold_max_each (x ∷ xs) n = All-cons (λ y. y ≤ fold max (max n x) xs) x xs (omega (arith, fold_max_first xs (max n x))) (fold_max_each xs (max n x))

-- it is no more than what all of them are no more than
fold_max_most : (xs : List ℕ) (n most : ℕ) → n ≤ most → All (λ x. x ≤ most) xs → fold max n xs ≤ most
fold_max_most [] n most first each = first
fold_max_most (x ∷ xs) n most first each = fold_max_most xs (max n x) most (omega (arith, first, All-head (λ y. y ≤ most) x xs each)) (All-tail (λ y. y ≤ most) x xs each)

-- no plate is wider than the widest
pub width_most : (b : Problem) (plate : ℕ) → Width b plate ≤ Widest b
unfolding Width Widest
width_most b plate =
    elim (below_or_not plate (length b.widths)) [
      | inl lt ↦ All-get_or (λ x. x ≤ fold max b.params.width b.widths) b.widths plate b.params.width lt (fold_max_each b.widths b.params.width)
      | inr le ↦ subst (λ x. x ≤ fold max b.params.width b.widths) (sym (get_or-eq_default b.widths b.params.width le)) (fold_max_first b.widths b.params.width)
    ]

-- the widest plate is at most 20,000 mm wide
pub widest_within : (b : Problem) → IsProblem b → Widest b ≤ MOST_SIDE
unfolding Widest
widest_within b h =
    fold_max_most b.widths b.params.width MOST_SIDE b.params.accepted.width_limit (All-weaker IsWidth (λ x. x ≤ MOST_SIDE) (λ x w. w.1) b.widths h.widths.each)

pub before_within : (b : Problem) (plate : ℕ) → IsProblem b → Before b plate ≤ MOST_SIDE * plate
unfolding Before
before_within b zero h = omega arith
before_within b (suc plate) h = omega (arith, before_within b plate h, (width_within b plate h).1)

-- the sum of one more number
pub sum-take : (xs : List ℕ) (i d : ℕ) → i < length xs → sum (take (i + 1) xs) ≡ sum (take i xs) + get_or xs i d
sum-take xs i d h = sum_by_more (λ n. n) xs i d h

-- the widths before a plate, as a sum of given widths
pub before-sum : (b : Problem) (plate : ℕ) → plate ≤ length b.widths → Before b plate ≡ sum (take plate b.widths)
unfolding Before Width
before-sum b zero h = refl
before-sum b (suc plate) h =
    rw (before-sum b plate (omega arith)) (sym (rw add-one at (sum-take b.widths plate b.params.width (omega arith))))

-- behind the last plate all are of one width
pub before-behind : (b : Problem) (more : ℕ) → Before b (length b.widths + more) ≡ Before b (length b.widths) + more * b.params.width
unfolding Before Width
before-behind b zero = rw add-zero (omega arith)
before-behind b (suc more) =
    rw add-suc (omega (arith, before-behind b more, get_or-eq_default b.widths b.params.width {n = length b.widths + more} (omega arith)))

-- the widths before a plate, from those before the last given one
pub before-start : (b : Problem) (starts : List ℕ) (plate within : ℕ) → IsProblem b → AreStarts b.widths starts → within ≡ min plate b.params.plates →
    slice_index starts within + (plate - within) * b.params.width ≡ Before b plate
before-start b starts plate within h starts_are is =
    let many = h.widths.many in
    let start : slice_index starts within ≡ Before b within = starts_are.each within (omega arith) ∙ sym (before-sum b within (omega arith)) in
    elim (below_or_not plate b.params.plates) [
      | inl lt ↦
          let same : within ≡ plate = omega arith in
          let none : plate - within ≡ 0 = omega arith in
          rw (start, none, same) (omega arith)
      | inr le ↦
          let all : within ≡ length b.widths = omega arith in
          let whole : length b.widths + (plate - within) ≡ plate = omega arith in
          omega (arith, start, ap (Before b) all, ap (Before b) whole, before-behind b (plate - within))
    ]
