-- The leasts of a box are filled.
use Rattle.std.proofs.Common.{Bool, Option, None, ◌==◌, ◌<◌, get_or, ◌≡◌, ℕ, zero, suc, ◌≤◌, List, [], ◌∷◌, ◌++◌, length, map, take, refl, ap, sym, ◌∙◌, subst, arith, All}
use Rattle.std.proofs.lemmas.List.{get_or-take, length-map, length-take-le, take-map, take-take, take_all}
use Rattle.std.proofs.lemmas.List.Elements.{All-cons, All-head, All-nil, All-tail}
use Rattle.glass_base.specs.declared.item.Defect.{Defect}
use Rattle.plan_box.specs.declared.reason.Reason.{Reason}
use Rattle.box_bound.specs.Seen.{AmongFixed, AreSeen, IsFirstIfAny}
use Rattle.plan_box.specs.Facts.{FactOf}
use Rattle.glass_base.specs.Items.{area_of}
use Rattle.glass_base.specs.Problem.{Problem, IsProblem}
use Rattle.plan_trace.specs.declared.level.Level.{Level}
use Rattle.plan_trace.specs.declared.level.Level.TheVariants.{NewPlate}
use Rattle.plan_trace.specs.Marks.{Draw, begins, place_of}
use Rattle.plan_box.specs.declared.frame.Frame.{Frame}
use Rattle.plan_box.specs.declared.packed.Packed.{Packed}
use Rattle.plan_box.specs.Decisions.{decided, draw_at}
use Rattle.plan_box.specs.Leasts.{Known, Fixed, fixed, known, next_known, no_known, settle}
use Rattle.plan_box.specs.Packed.{all_ranges, unpacked}
use Rattle.plan_box.proofs.Counts.{decided_few}
use Rattle.plan_box.proofs.Stored.{decided_all}
use Rattle.plan_box.specs.Ranges.{Ranges, PlainBox, AreInFrame}
use Rattle.box_bound.specs.declared.kept.Kept.{Kept}
use Rattle.box_bound.specs.Kept.{early_fixed, late, late_fixed}
use Rattle.plan_box.specs.Follows.{follow}
use Rattle.box_bound.specs.Leastings.{IsFor, ranges_in}
use Rattle.box_bound.specs.inner.Drawn.{IsFollowed}
use Rattle.plan_box.specs.Within.{AllFixed, AreRangesWithin, AreWithin}
use Rattle.box_bound.proofs.Extending.{ranges_followed, ranges_twice}
use Rattle.plan_box.proofs.Limits.{all_within, few_within}
use Rattle.plan_box.proofs.Following.{known_follows}
use Rattle.glass_base.specs.declared.limits.TheConstants.{MOST_LENGTH}

follow_take : (b : Problem) (before : List Draw) (k : Known) (n : ℕ) (rs : List Ranges) → take n (follow b before k rs) ≡ follow b before k (take n rs)
follow_take b before k zero rs = refl
follow_take b before k (suc n) [] = refl
follow_take b before k (suc n) (r ∷ rs) =
    let l : Level = begins before r.kind.low in
    let j : Known = next_known b l (place_of b before k.place (draw_at r)) k r in
    ap (λ (ks : List Fixed). fixed l j ∷ ks) (follow_take b (draw_at r ∷ before) j n rs)

pub start_followed : (b : Problem) (xs : List Kept) (ranges : List Packed) (count from : ℕ) → from ≤ count → map (λ (k : Kept). k.ranges) (take from (take count xs)) ≡ take from ranges →
    map early_fixed (take count xs) ≡ follow b [] no_known (ranges_in (take count xs)) → IsFollowed b xs ranges from
start_followed b xs ranges count from le same kept =
    let taken : take from (take count xs) ≡ take from xs = take-take from count xs le in
    record {
      ranges_are = ap (map (λ (k : Kept). k.ranges)) (sym taken) ∙ same;
      values =
          ap (map early_fixed) (sym taken)
          ∙ sym (take-map early_fixed from (take count xs))
          ∙ ap (take from) kept
          ∙ follow_take b [] no_known from (ranges_in (take count xs))
          ∙ ap (follow b [] no_known) (take-map (λ (k : Kept). unpacked k.ranges) from (take count xs) ∙ ranges_twice (take from (take count xs)) ∙ ap (map unpacked) same);
    }

pub followed_same : (b : Problem) (xs ys : List Kept) (ranges : List Packed) (n : ℕ) → map early_fixed ys ≡ map early_fixed xs → map (λ (k : Kept). k.ranges) ys ≡ map (λ (k : Kept). k.ranges) xs →
    IsFollowed b xs ranges n → IsFollowed b ys ranges n
followed_same b xs ys ranges n e f h = record {
  ranges_are = sym (take-map (λ (k : Kept). k.ranges) n ys) ∙ ap (take n) f ∙ take-map (λ (k : Kept). k.ranges) n xs ∙ h.ranges_are;
  values = sym (take-map early_fixed n ys) ∙ ap (take n) e ∙ take-map early_fixed n xs ∙ h.values;
}

-- no more steps are decided than are stored
pub decided_stored : (f : Frame) (stored : List Packed) → length (decided (all_ranges f (map unpacked stored))) ≤ length stored
decided_stored f stored = omega (arith, ap length (decided_all f (map unpacked stored)), decided_few (map unpacked stored), length-map stored unpacked)

-- the ranges that are stored of a box lie in its frame
pub stored_in_frame : (f : Frame) (stored : List Packed) (rest : List Ranges) → All (AreInFrame f) (map unpacked stored ++ rest) → All (λ x. AreInFrame f (unpacked x)) stored
stored_in_frame f [] rest h = All-nil (λ x. AreInFrame f (unpacked x))
stored_in_frame f (x ∷ stored) rest h =
    All-cons (λ y. AreInFrame f (unpacked y)) x stored (All-head (AreInFrame f) (unpacked x) (map unpacked stored ++ rest) h) (stored_in_frame f stored rest (All-tail (AreInFrame f) (unpacked x) (map unpacked stored ++ rest) h))

-- the steps of a box are within the last limit
pub filled_within : (b : Problem) (ps : List Packed) (xs : List Kept) → IsProblem b → All (λ (p : Packed). AreRangesWithin (unpacked p)) ps → length ps ≤ length b.items → IsFollowed b xs ps (length ps) →
    map late_fixed (take (length ps) xs) ≡ settle (map early_fixed (take (length ps) xs)) → All (λ (k : Kept). AreWithin MOST_LENGTH (late k)) (take (length ps) xs)
filled_within b ps xs rules within few followed lates =
    let n : ℕ = length ps in
    let taken : take n ps ≡ ps = take_all n ps (omega arith) in
    let late_is : map late_fixed (take n xs) ≡ settle (follow b [] no_known (map unpacked ps)) = lates ∙ ap settle (followed.values ∙ ap (follow b [] no_known) (ap (map unpacked) taken)) in
    all_within (λ k. k.level) late MOST_LENGTH (take n xs) (subst (AllFixed MOST_LENGTH) (sym late_is) (few_within b rules ps within (omega (arith, few, rules.few_items))))

-- what filling gives is for the box
pub filled : (b : Problem) (x : PlainBox) (ps : List Packed) (xs : List Kept) (total : ℕ) (seen : List (Option Reason)) (defects : List Defect) → IsProblem b →
    map unpacked ps ≡ take (length (decided x.ranges)) x.ranges → All (λ (p : Packed). AreRangesWithin (unpacked p)) ps → length ps ≤ length b.items →
    total ≡ area_of b.items → length xs ≡ length b.items → IsFollowed b xs ps (length ps) →
    map late_fixed (take (length ps) xs) ≡ settle (map early_fixed (take (length ps) xs)) → defects ≡ b.defects →
    AreSeen b (length ps == length b.items) (map late_fixed (take (length ps) xs)) seen (length (take (length ps) xs)) →
    IsFor b x (record { total = total; steps = take (length ps) xs; seen = take (length ps) seen; places = length xs; defects = defects })
filled b x ps xs total seen defects rules ranges within few area places followed lates same_defects are_seen =
    let n : ℕ = length ps in
    let taken : take n ps ≡ ps = take_all n ps (omega arith) in
    let given : ranges_in (take n xs) ≡ map unpacked (take n ps) = ranges_followed b xs ps n followed in
    let here : length (take n xs) ≡ n = length-take-le n xs (omega (arith, few, places)) in
    let values : map late_fixed (take n xs) ≡ known b x.ranges =
    lates ∙ ap settle (followed.values ∙ ap (follow b [] no_known) (ap (map unpacked) taken ∙ ranges)) ∙ sym (known_follows b x.ranges) in
    record {
      of_instance = record {
        total = area;
        places = places;
        kept = record { values = followed.values ∙ ap (follow b [] no_known) (sym given) };
        settled = lates;
        few = omega (arith, here, few);
        defects = same_defects;
        seen = λ i lt.
            let less : i < n = omega (arith, lt, here) in
            subst (λ (w : Bool). IsFirstIfAny (λ r. AmongFixed (FactOf b w r) NewPlate no_known (map late_fixed (take n xs)) (suc i)) (get_or (take n seen) i None)) (ap (λ (m : ℕ). m == length b.items) (sym here))
            (subst (λ (o : Option Reason). IsFirstIfAny (λ r. AmongFixed (FactOf b (n == length b.items) r) NewPlate no_known (map late_fixed (take n xs)) (suc i)) o) (sym (get_or-take n seen i None less)) (are_seen i lt));
      };
      ranges = given ∙ ap (map unpacked) taken ∙ ranges;
      values = values;
      within = filled_within b ps xs rules within few followed lates;
    }
