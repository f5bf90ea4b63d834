-- Kept steps are followed by one more.
use Rattle.std.proofs.Common.{◌≡◌, ℕ, zero, suc, ◌+◌, ◌<◌, List, [], ◌∷◌, ◌++◌, length, map, take, get_or, refl, ap, sym, ◌∙◌, arith, All}
use Rattle.std.proofs.Math.ListN.{set}
use Rattle.std.proofs.lemmas.List.{take_more, take_more_set, map-append}
use Rattle.glass_base.specs.Problem.{Problem, IsProblem}
use Rattle.plan_box.specs.declared.packed.Packed.{Packed}
use Rattle.plan_box.specs.Leasts.{Known, last_known, no_known}
use Rattle.plan_box.specs.Packed.{unpacked}
use Rattle.plan_box.specs.Ranges.{Ranges}
use Rattle.box_bound.specs.declared.kept.Kept.{Kept}
use Rattle.box_bound.specs.Kept.{early, early_fixed}
use Rattle.plan_box.specs.Follows.{draws_of, next_fixed}
use Rattle.box_bound.specs.Leastings.{ranges_in}
use Rattle.box_bound.specs.inner.Drawn.{IsFollowed}
use Rattle.plan_box.specs.Within.{AreRangesWithin, AreWithin, limit}
use Rattle.plan_box.proofs.Following.{followed_more as more_values, last_push}
use Rattle.plan_box.proofs.Limits.{known_within}

pub last_taken : (k : Known) (xs : List Kept) (i : ℕ) (d : Kept) → i < length xs → last_known k (map early_fixed (take (suc i) xs)) ≡ early (get_or xs i d)
last_taken k [] i d lt = absurd (omega (arith, lt))
last_taken k (x ∷ xs) zero d lt = refl
last_taken k (x ∷ xs) (suc i) d lt = last_taken (early x) xs i d (omega (arith, lt))

pub last_more : (xs : List Kept) (i : ℕ) (y : Kept) → i < length xs → early y ≡ last_known no_known (map early_fixed (take (i + 1) (set xs i y)))
last_more xs i y lt =
    sym (
    ap (λ (ys : List Kept). last_known no_known (map early_fixed ys)) (take_more_set xs i y lt)
    ∙ ap (last_known no_known) (map-append early_fixed (take i xs) (y ∷ []))
    ∙ last_push no_known (map early_fixed (take i xs)) y.level (early y)
    )

pub ranges_twice : (xs : List Kept) → ranges_in xs ≡ map unpacked (map (λ k. k.ranges) xs)
ranges_twice [] = refl
ranges_twice (x ∷ xs) = ap (λ (rs : List Ranges). unpacked x.ranges ∷ rs) (ranges_twice xs)

pub ranges_followed : (b : Problem) (xs : List Kept) (ranges : List Packed) (i : ℕ) → IsFollowed b xs ranges i → ranges_in (take i xs) ≡ map unpacked (take i ranges)
ranges_followed b xs ranges i h = ranges_twice (take i xs) ∙ ap (map unpacked) h.ranges_are

pub followed_more : (b : Problem) (xs : List Kept) (ranges : List Packed) (i : ℕ) (y : Kept) (k : Known) (d : Packed) → i < length xs → i < length ranges → IsFollowed b xs ranges i →
    k ≡ last_known no_known (map early_fixed (take i xs)) → early_fixed y ≡ next_fixed b (draws_of (take i ranges)) k (unpacked (get_or ranges i d)) → y.ranges ≡ get_or ranges i d → IsFollowed b (set xs i y) ranges (i + 1)
followed_more b xs ranges i y k d lt within h last value same = record {
  ranges_are =
      ap (map (λ (j : Kept). j.ranges)) (take_more_set xs i y lt)
      ∙ map-append (λ (j : Kept). j.ranges) (take i xs) (y ∷ [])
      ∙ ap (λ (ps : List Packed). ps ++ y.ranges ∷ []) h.ranges_are
      ∙ ap (λ (p : Packed). take i ranges ++ p ∷ []) same
      ∙ sym (take_more ranges i d within);
  values = more_values early_fixed b xs ranges i y k d lt within h.values (last ∙ ap (last_known no_known) h.values) value;
}

pub extended_within : (b : Problem) → IsProblem b → (xs : List Kept) (ranges : List Packed) (i : ℕ) (k : Known) → IsFollowed b xs ranges i →
    k ≡ last_known no_known (map early_fixed (take i xs)) → All (λ x. AreRangesWithin (unpacked x)) ranges → AreWithin (limit (length (take i ranges))) k
extended_within b rules xs ranges i k h last within = known_within b rules ranges i k (last ∙ ap (last_known no_known) h.values) within
