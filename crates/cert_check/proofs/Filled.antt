-- The decided steps of a box are those of the definition, and none of their numbers is large.
use Rattle.std.proofs.Common.{◌≡◌, ℕ, ◌≤◌, List, [], length, map, take, ap, sym, ◌∙◌, subst, arith, All}
use Rattle.std.proofs.lemmas.List.{length-map, length-take-le, take-map}
use Rattle.glass_base.specs.Problem.{Problem, IsProblem}
use Rattle.plan_box.specs.declared.packed.Packed.{Packed}
use Rattle.plan_box.specs.Decisions.{decided}
use Rattle.plan_box.specs.Leasts.{no_known, settle}
use Rattle.plan_box.specs.Packed.{unpacked}
use Rattle.plan_box.specs.Ranges.{Ranges}
use Rattle.plan_box.specs.Follows.{follow}
use Rattle.plan_box.specs.Within.{AllFixed, AreRangesWithin}
use Rattle.plan_box.proofs.Counts.{decided_few}
use Rattle.plan_box.proofs.Following.{known_follows}
use Rattle.plan_box.proofs.Limits.{all_within, few_within}
use Rattle.cert_check.specs.declared.steps.Decided.{Decided}
use Rattle.cert_check.specs.inner.Knowns.{AreKnown, fixed_of, known_in}
use Rattle.glass_base.specs.declared.limits.TheConstants.{MOST_ITEMS, MOST_LENGTH}

-- no more steps are decided than there are
pub few_decided : (ranges : List Packed) → length (decided (map unpacked ranges)) ≤ length ranges
few_decided ranges = omega (arith, decided_few (map unpacked ranges), length-map ranges unpacked)

-- what filling gives is of the box
pub are_known : (b : Problem) (ranges : List Packed) (n : ℕ) (xs ys : List Decided) → IsProblem b → n ≡ length (decided (map unpacked ranges)) → n ≤ length ranges → length ranges ≤ MOST_ITEMS →
    All (λ (x : Packed). AreRangesWithin (unpacked x)) (take n ranges) → map fixed_of (take n xs) ≡ follow b [] no_known (map unpacked (take n ranges)) →
    map fixed_of (take n ys) ≡ settle (map fixed_of (take n xs)) → AreKnown b (map unpacked ranges) (take n ys)
are_known b ranges n xs ys rules count inside few within followed settled =
    let rs : List Ranges = map unpacked ranges in
    let are : map fixed_of (take n ys) ≡ settle (follow b [] no_known (map unpacked (take n ranges))) = settled ∙ ap settle followed in
    let same : map unpacked (take n ranges) ≡ take (length (decided rs)) rs = sym (take-map unpacked n ranges) ∙ ap (λ (m : ℕ). take m rs) count in
    record {
      values = are ∙ ap (λ (qs : List Ranges). settle (follow b [] no_known qs)) same ∙ sym (known_follows b rs);
      within =
          all_within (λ k. k.level) known_in MOST_LENGTH (take n ys)
          (subst (AllFixed MOST_LENGTH) (sym are) (few_within b rules (take n ranges) within (omega (arith, length-take-le n ranges inside, few, inside))));
    }
