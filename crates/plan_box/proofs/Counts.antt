-- How many steps are decided.
use Rattle.std.proofs.Common.{◌≡◌, suc, ◌+◌, ◌≤◌, List, [], ◌∷◌, ◌++◌, Bool, IsTrue, true, false, cond, length, map, refl, arith, ap, ◌∙◌, eqb-true}
use Rattle.std.proofs.lemmas.List.{length-append}
use Rattle.glass_base.specs.Problem.{Problem}
use Rattle.cut_model.specs.declared.steps.Step.{Step}
use Rattle.plan_trace.specs.Marks.{Draw, Place, Mark, mark, marks, no_place, place_of, draw_of, attach, begins, spots}
use Rattle.plan_box.specs.Ranges.{Ranges, InBox}
use Rattle.plan_box.specs.Decisions.{is_drawn, draw_at, decided, all_decided}
use Rattle.plan_box.specs.Leasts.{Known, Fixed, fixed, no_known, next_known, known_so_far, settle, known}

pub decided_few : (rs : List Ranges) → length (decided rs) ≤ length rs
decided_few [] = omega arith
decided_few (r ∷ rs) = elim (is_drawn r) as (λ yes. length (cond yes (draw_at r ∷ decided rs) []) ≤ suc (length rs)) [ true ↦ omega (arith, decided_few rs) | false ↦ omega arith ]

-- more steps behind decide no fewer
pub decided_append : (rs more : List Ranges) → length (decided rs) ≤ length (decided (rs ++ more))
decided_append [] more = omega arith
decided_append (r ∷ rs) more =
    elim (is_drawn r) as (λ yes. length (cond yes (draw_at r ∷ decided rs) []) ≤ length (cond yes (draw_at r ∷ decided (rs ++ more)) [])) [
      | true ↦ omega (arith, decided_append rs more)
      | false ↦ omega arith
    ]

one_before : (yes : Bool) (q : Ranges) (rs : List Ranges) (r : Ranges) (drawn : Bool) →
    (length (rs ++ r ∷ []) ≤ length (decided (rs ++ r ∷ [])) + 1 → length (decided (rs ++ r ∷ [])) ≡ cond drawn (length rs + 1) (length rs)) →
    suc (length (rs ++ r ∷ [])) ≤ length (cond yes (draw_at q ∷ decided (rs ++ r ∷ [])) []) + 1 →
    length (cond yes (draw_at q ∷ decided (rs ++ r ∷ [])) []) ≡ cond drawn (suc (length rs) + 1) (suc (length rs))
one_before true q rs r drawn rest few =
    ap suc (rest (omega (arith, few))) ∙ elim drawn as (λ known. suc (cond known (length rs + 1) (length rs)) ≡ cond known (suc (length rs) + 1) (suc (length rs))) [ true ↦ omega arith | false ↦ refl ]
one_before false q rs r drawn rest few = absurd (omega (arith, few, length-append rs (r ∷ [])))

-- of steps of which no more than the last one is undecided, the last one is decided where its discrete numbers are known
pub last_decided : (rs : List Ranges) (r : Ranges) (drawn : Bool) → is_drawn r ≡ drawn → length (rs ++ r ∷ []) ≤ length (decided (rs ++ r ∷ [])) + 1 →
    length (decided (rs ++ r ∷ [])) ≡ cond drawn (length rs + 1) (length rs)
last_decided [] r drawn e few =
    ap (λ yes. length (cond yes (draw_at r ∷ []) [])) e ∙ elim drawn as (λ yes. length (cond yes (draw_at r ∷ []) []) ≡ cond yes 1 0) [ true ↦ refl | false ↦ refl ]
last_decided (q ∷ rs) r drawn e few = one_before (is_drawn q) q rs r drawn (last_decided rs r drawn e) few

settle_count : (ks : List Fixed) → length (settle ks) ≡ length ks
settle_count [] = refl
settle_count (fixed l k ∷ ks) = ap suc (settle_count ks)

so_far_count : (b : Problem) (k : Known) (before : List Draw) (t : Place) (ds : List Draw) (rs : List Ranges) → length ds ≤ length rs → length (known_so_far b k (marks b before t ds) rs) ≡ length ds
so_far_count b k before t [] rs le = refl
so_far_count b k before t (d ∷ ds) [] le = absurd (omega (arith, le))
so_far_count b k before t (d ∷ ds) (r ∷ rs) le =
    ap suc (so_far_count b (next_known b (begins before d.kind) (place_of b before t d) k r) (d ∷ before) (place_of b before t d) ds rs (omega (arith, le)))

-- as much is known as is decided
pub known_count : (b : Problem) (rs : List Ranges) → length (known b rs) ≡ length (decided rs)
known_count b rs =
    settle_count (known_so_far b no_known (marks b [] no_place (decided rs)) rs) ∙ so_far_count b no_known [] no_place (decided rs) rs (decided_few rs)

attach_few : (ms : List Mark) (ss : List Step) → length (attach ms ss) ≤ length ss
attach_few [] ss = omega arith
attach_few (_ ∷ _) [] = omega arith
attach_few (mark l p ∷ ms) (s ∷ ss) = omega (arith, attach_few ms ss)

-- a trace in a box has a step for each list of ranges
pub in_box_count : (ss : List Step) (rs : List Ranges) → InBox ss rs → length ss ≡ length rs
in_box_count [] [] h = refl
in_box_count [] (r ∷ rs) h = elim h [ ]
in_box_count (s ∷ ss) [] h = elim h [ ]
in_box_count (s ∷ ss) (r ∷ rs) h = ap suc (in_box_count ss rs h.1)

-- where all steps are decided, of all steps of a trace something is known
pub whole_known : (b : Problem) (rs : List Ranges) (ss : List Step) → InBox ss rs → IsTrue (all_decided rs) → length (spots b ss) ≤ length (known b rs)
whole_known b rs ss is_in whole =
    omega (arith, known_count b rs, eqb-true (length (decided rs)) (length rs) whole, in_box_count ss rs is_in, attach_few (marks b [] no_place (map draw_of ss)) ss)
