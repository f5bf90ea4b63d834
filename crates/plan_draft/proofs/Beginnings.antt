-- The left sides of strips, from one that may be right to the next, and the best place so far.
use Rattle.std.proofs.Common.{◌≡◌, ℕ, zero, suc, ◌+◌, ◌<◌, ◌≤◌, ◌⊎◌, min, max, inl, inr, Option, Some, None, MatchOption, sym, subst, arith}
use Rattle.std.proofs.lemmas.Bool.{cases_lt}
use Rattle.glass_base.specs.declared.item.Item.{Item}
use Rattle.glass_base.specs.Plates.{Width}
use Rattle.glass_base.specs.Problem.{Problem}
use Rattle.defect_map.specs.Queries.{CrossesNoneX}
use Rattle.plan_trace.specs.Marks.{item_width}
use Rattle.plan_trace.specs.TraceRules.{Gap}
use Rattle.plan_draft.specs.declared.place.ItemPlace.{ItemPlace}
use Rattle.plan_draft.specs.inner.Least.{IsSkip}
use Rattle.plan_draft.specs.inner.Places.{HasNoPlace, IsBestBefore, IsFirstOf, IsLeft, IsPlace, IsUpright, StandsAt, end_of, lesser}
use Rattle.plan_draft.proofs.Bottoms.{skip_stronger}
use Rattle.plan_draft.proofs.Standing.{lesser_first, same_places}
use Rattle.glass_base.specs.declared.limits.TheConstants.{MOST_SIDE}

-- behind the plate's side
pub line_found : (b : Problem) (plate left : ℕ) (found : Option ℕ) → ¬ (left ≡ 0) → MatchOption found (CrossesNoneX b.defects plate left 0 b.params.height) (IsSkip (λ m. CrossesNoneX b.defects plate m 0 b.params.height) left) →
    MatchOption found (IsUpright b plate 0 left) (IsSkip (IsUpright b plate 0) left)
line_found b plate left None some clear = inr clear
line_found b plate left (Some next) some skip = record { further = skip.further; near = skip.near; none_before = λ m le lt is. by m (omega (arith, some, le)) is (skip.none_before m le lt) }
  where
    by : (m : ℕ) → 0 < m → (m ≡ 0) ⊎ CrossesNoneX b.defects plate m 0 b.params.height → ¬ CrossesNoneX b.defects plate m 0 b.params.height → ⊥
    by m positive (inl e) crossed = omega (arith, e, positive)
    by m positive (inr clear) crossed = crossed clear

left_line : (b : Problem) (plate from m : ℕ) → IsLeft b plate from m → IsUpright b plate 0 m
left_line b plate from m is = is.line

-- where a gap is kept the line decides
pub left_found : (b : Problem) (plate from left : ℕ) (found : Option ℕ) → Gap b.params.waste from left → MatchOption found (IsUpright b plate 0 left) (IsSkip (IsUpright b plate 0) left) →
    MatchOption found (IsLeft b plate from left) (IsSkip (IsLeft b plate from) left)
left_found b plate from left None gap line = record { before = gap; line = line }
left_found b plate from left (Some next) gap skip = skip_stronger (left_line b plate from) skip

-- in a gap that is too narrow no strip begins
pub left_narrow : (b : Problem) (plate from left : ℕ) → from ≤ left → ¬ (left ≡ from) → left < from + b.params.waste → from ≤ MOST_SIDE → IsSkip (IsLeft b plate from) left (from + b.params.waste)
left_narrow b plate from left le apart lt near = record {
  further = lt;
  near = omega (arith, near, b.params.accepted.waste_min1, b.params.accepted.min1_max1, b.params.accepted.max1_limit);
  none_before = λ m more less is. by m (omega (arith, le, apart, more)) less is.before;
}
  where
    by : (m : ℕ) → from < m → m < from + b.params.waste → Gap b.params.waste from m → ⊥
    by m more less (inl e) = omega (arith, e, more)
    by m more less (inr far) = omega (arith, far, less)

-- before the first left side there is no place
pub best_none : (b : Problem) (plate from : ℕ) (item : Item) → IsBestBefore b plate from item from None
best_none b plate from item = record { first = λ p h. by p h.0.left.before h.1 }
  where
    by : (p : ItemPlace) → Gap b.params.waste from p.a → p.a < from → ⊥
    by p (inl e) lt = omega (arith, e, lt)
    by p (inr far) lt = omega (arith, far, lt)

-- left sides that are skipped have no place
pub best_skip : (b : Problem) (plate from : ℕ) (item : Item) (left next : ℕ) (best : Option ItemPlace) → IsSkip (IsLeft b plate from) left next → IsBestBefore b plate from item left best → IsBestBefore b plate from item next best
best_skip b plate from item left next best skip h = record {
  first = same_places best (λ p is. (is.0, omega (arith, is.1, skip.further)))
      (λ p is. (is.0, elim (cases_lt p.a left) [ inl lt ↦ lt | inr le ↦ absurd (skip.none_before p.a le is.1 is.0.left) ])) h.first;
}

-- the places at one more left side
pub best_more : (b : Problem) (plate from : ℕ) (item : Item) (left : ℕ) (best here found : Option ItemPlace) → found ≡ lesser best here → IsLeft b plate from left → IsBestBefore b plate from item left best →
    MatchOption here (HasNoPlace (StandsAt b plate left item)) (IsFirstOf (StandsAt b plate left item)) → IsBestBefore b plate from item (left + 1) found
best_more b plate from item left best here found is at h k = record {
  first = rw is (same_places (lesser best here) to back
      (lesser_first (λ p. IsPlace b plate from item p × (p.a < left)) (λ p. StandsAt b plate left item p) best here h.first k));
}
  where
    placed : (p : ItemPlace) → StandsAt b plate left item p → IsPlace b plate from item p
    placed p s = record { left = subst (IsLeft b plate from) (sym s.1.a_is) at; stands = subst (λ n. StandsAt b plate n item p) (sym s.1.a_is) s }

    to : (p : ItemPlace) → (IsPlace b plate from item p × (p.a < left)) ⊎ StandsAt b plate left item p → IsPlace b plate from item p × (p.a < left + 1)
    to p (inl was) = (was.0, omega (arith, was.1))
    to p (inr s) = (placed p s, omega (arith, s.1.a_is))

    back : (p : ItemPlace) → IsPlace b plate from item p × (p.a < left + 1) → (IsPlace b plate from item p × (p.a < left)) ⊎ StandsAt b plate left item p
    back p is =
        elim (cases_lt p.a left) [
          | inl lt ↦ inl (is.0, lt)
          | inr le ↦ inr (subst (λ n. StandsAt b plate n item p) (omega (arith, le, is.1)) is.0.stands)
        ]

least_width : (turn : ℕ) (item : Item) → min item.length item.width ≤ item_width turn (Some item)
least_width zero item = omega arith
least_width (suc turn) item = omega arith

-- how wide a strip of the item is at least
wide_enough : (b : Problem) (plate from : ℕ) (item : Item) (p : ItemPlace) → IsPlace b plate from item p → p.a + max b.params.min1 (min item.length item.width) ≤ p.b
wide_enough b plate from item p is =
    elim is.stands.1.behind [
      | inl alone ↦ omega (arith, is.stands.1.wide, alone, least_width p.turn item)
      | inr beside ↦ omega (arith, is.stands.1.wide, beside, least_width p.turn item)
    ]

-- a strip that begins too far right comes later than the best place
pub best_all : (b : Problem) (plate from : ℕ) (item : Item) (left : ℕ) (best : Option ItemPlace) → end_of (Width b plate) best < left + max b.params.min1 (min item.length item.width) →
    IsBestBefore b plate from item left best → MatchOption best (HasNoPlace (IsPlace b plate from item)) (IsFirstOf (IsPlace b plate from item))
best_all b plate from item left None far h = λ p is.
    elim (cases_lt p.a left) [
      | inl lt ↦ h.first p (is, lt)
      | inr le ↦ omega (arith, far, le, wide_enough b plate from item p is, is.stands.1.right.within)
    ]
best_all b plate from item left (Some q) far h = (
  h.first.0.0,
  λ p is. elim (cases_lt p.a left) [
    | inl lt ↦ h.first.1 p (is, lt)
    | inr le ↦ inl (omega (arith, far, le, wide_enough b plate from item p is))
  ],
)

-- the best place so far ends on the plate
pub end_within : (b : Problem) (plate from : ℕ) (item : Item) (left : ℕ) (best : Option ItemPlace) → IsBestBefore b plate from item left best → end_of (Width b plate) best ≤ Width b plate
end_within b plate from item left None h = omega arith
end_within b plate from item left (Some p) h = h.first.0.0.stands.1.right.within
