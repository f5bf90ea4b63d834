-- The decided steps from one on, from those behind it.
use Rattle.std.proofs.Common.{◌≡◌, ℕ, suc, ◌+◌, ◌<◌, ◌≤◌, List, [], ◌∷◌, ◌++◌, length, map, take, drop, get_or, refl, ap, sym, ◌∙◌, subst, arith, append_assoc, All, IfSome, Option, Some, None}
use Rattle.std.proofs.Math.ListN.{set}
use Rattle.std.proofs.lemmas.List.{drop_more, length-drop, length-map, length-take-le, set_at, take_more}
use Rattle.std.proofs.lemmas.List.Elements.{All-drop, All-get_or, All-map}
use Rattle.glass_base.specs.Problem.{Problem, IsProblem}
use Rattle.cut_model.specs.declared.steps.Step.{Step}
use Rattle.plan_trace.specs.declared.level.Level.{Level}
use Rattle.plan_trace.specs.Marks.{Draw, begins, drawn, level_of, place_of}
use Rattle.plan_box.specs.Decisions.{draw_at}
use Rattle.plan_box.specs.declared.packed.Packed.{Packed}
use Rattle.plan_box.specs.declared.reason.Reason.{Reason}
use Rattle.plan_box.specs.Leasts.{Known, Fixed, fixed, next_known, settle, settle_at}
use Rattle.plan_box.specs.Packed.{unpacked}
use Rattle.plan_box.specs.Ranges.{Ranges}
use Rattle.plan_box.specs.Reasons.{SomeFixed, fixed_levels}
use Rattle.box_bound.specs.declared.ends.Ends.{Ends}
use Rattle.box_bound.specs.declared.kept.Kept.{Kept}
use Rattle.box_bound.specs.Kept.{early, early_fixed, late, with_ends}
use Rattle.plan_box.specs.Follows.{follow, draws_of, next_fixed}
use Rattle.box_bound.specs.inner.Drawn.{levels_of}
use Rattle.box_bound.specs.Seen.{IsFirstIfAny, earlier}
use Rattle.box_bound.specs.inner.Walks.{AreLevels, IsHead, SomeBehind, steps_from}
use Rattle.plan_box.specs.Within.{AreRangesWithin, AreWithin, limit, AllFixed}
use Rattle.plan_box.proofs.Draws.{draws_more}
use Rattle.plan_box.proofs.Limits.{item_within, follow_within, settle_within}
use Rattle.box_bound.proofs.Seeing.{Reasoning, first_or}
use Rattle.plan_box.proofs.Sizes.{next_within, within_same}
use Rattle.glass_base.specs.declared.limits.TheConstants.{MOST_ITEMS, MOST_LENGTH, MOST_REACH}

-- the steps from one on are this one, with the values that it takes over, and those behind it
pub steps_one : (b : Problem) (ranges : List Packed) (at : ℕ) (k : Known) (y : Kept) (d : Packed) → at < length ranges → early_fixed y ≡ next_fixed b (draws_of (take at ranges)) k (unpacked (get_or ranges at d)) →
    steps_from b ranges at k ≡ fixed y.level (settle_at (early y) (steps_from b ranges (at + 1) (early y))) ∷ steps_from b ranges (at + 1) (early y)
steps_one b ranges at k y d lt value =
    let r : Ranges = unpacked (get_or ranges at d) in
    let D : List Draw = draws_of (take at ranges) in
    let l : Level = begins D r.kind.low in
    let n : Known = next_known b l (place_of b D k.place (draw_at r)) k r in
    let same : early_fixed y ≡ fixed l n = value in
    let level : y.level ≡ l = cc in
    let known : early y ≡ n = cc in
    let rest : List Ranges = map unpacked (drop (at + 1) ranges) in
    let more : map unpacked (drop at ranges) ≡ r ∷ rest = ap (map unpacked) (drop_more ranges at d lt) in
    let draws : draws_of (take (at + 1) ranges) ≡ draw_at r ∷ D = draws_more ranges at d lt in
    ap (λ (rs : List Ranges). settle (follow b D k rs)) more
    ∙ ap (λ (ds : List Draw). fixed l (settle_at n (settle (follow b ds n rest))) ∷ settle (follow b ds n rest)) (sym draws)
    ∙ ap (λ (j : Known). fixed l (settle_at j (steps_from b ranges (at + 1) j)) ∷ steps_from b ranges (at + 1) j) (sym known)
    ∙ ap (λ (m : Level). fixed m (settle_at (early y) (steps_from b ranges (at + 1) (early y))) ∷ steps_from b ranges (at + 1) (early y)) (sym level)

settle_levels : (ks : List Fixed) → fixed_levels (settle ks) ≡ fixed_levels ks
settle_levels [] = refl
settle_levels (fixed l k ∷ ks) = ap (λ (ls : List Level). l ∷ ls) (settle_levels ks)

level_count : (ks : List Fixed) → length (fixed_levels ks) ≡ length ks
level_count [] = refl
level_count (fixed l k ∷ ks) = ap suc (level_count ks)

follow_count : (b : Problem) (before : List Draw) (k : Known) (rs : List Ranges) → length (follow b before k rs) ≡ length rs
follow_count b before k [] = refl
follow_count b before k (r ∷ rs) =
    let l : Level = begins before r.kind.low in
    let n : Known = next_known b l (place_of b before k.place (draw_at r)) k r in
    ap suc (follow_count b (draw_at r ∷ before) n rs)

follow_kinds : (b : Problem) (before : List Draw) (k : Known) (ranges : List Packed) → ((kind : ℕ) → begins before kind ≡ level_of kind) → fixed_levels (follow b before k (map unpacked ranges)) ≡ levels_of ranges
follow_kinds b before k [] h = refl
follow_kinds b before k (r ∷ ranges) h =
    let l : Level = begins before (unpacked r).kind.low in
    let n : Known = next_known b l (place_of b before k.place (draw_at (unpacked r))) k (unpacked r) in
    ap (λ (m : Level). m ∷ fixed_levels (follow b (draw_at (unpacked r) ∷ before) n (map unpacked ranges))) (h (unpacked r).kind.low)
    ∙ ap (λ (ls : List Level). level_of (unpacked r).kind.low ∷ ls) (follow_kinds b (draw_at (unpacked r) ∷ before) n ranges (λ kind. refl))

tail_kinds : (b : Problem) (before : List Draw) (k : Known) (ranges : List Packed) → drop 1 (fixed_levels (follow b before k (map unpacked ranges))) ≡ drop 1 (levels_of ranges)
tail_kinds b before k [] = refl
tail_kinds b before k (r ∷ ranges) =
    let l : Level = begins before (unpacked r).kind.low in
    let n : Known = next_known b l (place_of b before k.place (draw_at (unpacked r))) k (unpacked r) in
    follow_kinds b (draw_at (unpacked r) ∷ before) n ranges (λ kind. refl)

-- each step but the first begins what its ranges say
pub are_levels : (b : Problem) (before : List Draw) (k : Known) (ranges : List Packed) → AreLevels (settle (follow b before k (map unpacked ranges))) ranges
are_levels b before k ranges =
    let ks : List Fixed = follow b before k (map unpacked ranges) in
    record {
      count = omega (arith, level_count (settle ks), ap length (settle_levels ks), level_count ks, follow_count b before k (map unpacked ranges), length-map ranges unpacked);
      later = ap (drop 1) (settle_levels ks) ∙ tail_kinds b before k ranges;
    }

-- the step before looks at the first of these, and then at the others
pub seen_first : (R : Reason → Reasoning) (l : Level) (k : Known) (ks : List Fixed) (next : Kept) (ranges later : List Packed) (first : Packed) (now seen : Option Reason) → IsHead (Some next) ks → AreLevels ks ranges →
    ranges ≡ first ∷ later → IsFirstIfAny (λ r. R r l k next.level (late next) (levels_of later)) now → IsFirstIfAny (λ r. SomeBehind (R r) ks) seen → IsFirstIfAny (λ r. SomeFixed (R r) l k ks) (earlier now seen)
seen_first R l k [] next ranges later first now seen head levels is h g = absurd head
seen_first R l k (fixed m j ∷ ks) next ranges later first now seen head levels is h g =
    let ahead : levels_of later ≡ fixed_levels ks = sym (levels.later ∙ ap (λ (rs : List Packed). drop 1 (levels_of rs)) is) in
    let level : next.level ≡ m = cc in
    let known : late next ≡ j = cc in
    let here : IsFirstIfAny (λ r. R r l k m j (fixed_levels ks)) now =
    subst (λ (x : Level). IsFirstIfAny (λ r. R r l k x j (fixed_levels ks)) now) level
    (subst (λ (x : Known). IsFirstIfAny (λ r. R r l k next.level x (fixed_levels ks)) now) known
    (subst (λ (ls : List Level). IsFirstIfAny (λ r. R r l k next.level (late next) ls) now) ahead h)) in
    first_or (λ r. R r l k m j (fixed_levels ks)) (λ r. SomeFixed (R r) m j ks) now seen here g

-- the next step is within the next limit
pub step_within : (b : Problem) → IsProblem b → (ranges : List Packed) (at n : ℕ) (k : Known) (y : Kept) (d : Packed) → at < length ranges → n ≡ at + 1 → All (λ x. AreRangesWithin (unpacked x)) ranges → AreWithin (limit at) k →
    early_fixed y ≡ next_fixed b (draws_of (take at ranges)) k (unpacked (get_or ranges at d)) → AreWithin (limit n) (early y)
step_within b rules ranges at n k y d lt is within h value =
    let r : Ranges = unpacked (get_or ranges at d) in
    let D : List Draw = draws_of (take at ranges) in
    let l : Level = begins D r.kind.low in
    let j : Known = next_known b l (place_of b D k.place (draw_at r)) k r in
    let same : early_fixed y ≡ fixed l j = value in
    let known : early y ≡ j = cc in
    let here = All-get_or (λ (x : Packed). AreRangesWithin (unpacked x)) ranges at d lt within in
    within_same (limit n) (limit at + MOST_REACH) (early y) j known (omega (arith, is)) (next_within b rules (limit at) D (draw_at r) k r h here (omega arith) here.lift (item_within b rules r.stack.low (drawn D r.stack.low)))

first_of : (n : ℕ) (ks : List Fixed) (k : Option Kept) → AllFixed n ks → IsHead k ks → IfSome k (λ (x : Kept). AreWithin n (late x))
first_of n [] None h head = tt
first_of n [] (Some k) h head = absurd head
first_of n (x ∷ ks) None h head = absurd head
first_of n (fixed l j ∷ ks) (Some k) h head = let same : late k ≡ j = cc in within_same n n (late k) j same refl h.0

-- and the first of the steps from one on is within the last limit
pub head_within : (b : Problem) → IsProblem b → (ranges : List Packed) (at : ℕ) (k : Known) (first : Option Kept) → at ≤ length ranges → length ranges ≤ MOST_ITEMS → All (λ x. AreRangesWithin (unpacked x)) ranges → AreWithin (limit at) k →
    IsHead first (steps_from b ranges at k) → IfSome first (λ (x : Kept). AreWithin MOST_LENGTH (late x))
head_within b rules ranges at k first le few within h head =
    let rest : List Packed = drop at ranges in
    let all = follow_within b rules (draws_of (take at ranges)) k (limit at) MOST_LENGTH (map unpacked rest) h (omega arith) (All-map AreRangesWithin unpacked rest (All-drop (λ (x : Packed). AreRangesWithin (unpacked x)) at ranges within))
    (omega (arith, few, le, length-map rest unpacked, length-drop at ranges)) in
    first_of MOST_LENGTH (steps_from b ranges at k) first (settle_within MOST_LENGTH (follow b (draws_of (take at ranges)) k (map unpacked rest)) all) head

-- the steps are written from the last one on
pub written_one : (old mid new : List Step) (at n : ℕ) (x d : Step) (more rest : List Step) → at < length old → mid ≡ take (at + 1) old ++ (more ++ rest) → new ≡ set mid at x → new ≡ take at old ++ (x ∷ (more ++ rest))
written_one old mid new at n x d more rest lt is set_is =
    let before : take (at + 1) old ++ (more ++ rest) ≡ take at old ++ (get_or old at d ∷ (more ++ rest)) =
    ap (λ (xs : List Step). xs ++ (more ++ rest)) (take_more old at d lt) ∙ append_assoc (take at old) (get_or old at d ∷ []) (more ++ rest) in
    set_is ∙ ap (λ (xs : List Step). set xs at x) (is ∙ before) ∙ set_at (take at old) (get_or old at d) (more ++ rest) x at (length-take-le at old (omega arith))

-- a settled step is the first of the steps from one on
pub head_is : (here step : Kept) (ends : Ends) (all later : List Fixed) → here ≡ with_ends ends step → late here ≡ settle_at (early step) later → all ≡ fixed step.level (settle_at (early step) later) ∷ later → IsHead (Some here) all
head_is here step ends all later same known is =
    subst (λ (ks : List Fixed). IsHead (Some here) ks) (sym is) (ap (λ (x : Kept). fixed x.level (late here)) same ∙ ap (fixed step.level) known)

-- and what is seen behind it is seen behind the first
pub seen_is : (R : Reason → Reasoning) (here step : Kept) (ends : Ends) (all later : List Fixed) (seen : Option Reason) → here ≡ with_ends ends step → late here ≡ settle_at (early step) later → all ≡ fixed step.level (settle_at (early step) later) ∷ later →
    IsFirstIfAny (λ r. SomeFixed (R r) here.level (late here) later) seen → IsFirstIfAny (λ r. SomeBehind (R r) all) seen
seen_is R here step ends all later seen same known is h =
    let level : here.level ≡ step.level = ap (λ (x : Kept). x.level) same in
    subst (λ (ks : List Fixed). IsFirstIfAny (λ r. SomeBehind (R r) ks) seen) (sym is)
    (subst (λ (k : Known). IsFirstIfAny (λ r. SomeFixed (R r) step.level k later) seen) known
    (subst (λ (l : Level). IsFirstIfAny (λ r. SomeFixed (R r) l (late here) later) seen) level h))
