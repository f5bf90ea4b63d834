-- The trace at the least values is written step by step.
use Rattle.std.proofs.Common.{◌≡◌, ℕ, ◌+◌, ◌<◌, List, [], ◌∷◌, ◌++◌, length, map, take, drop, get_or, refl, ap, sym, ◌∙◌, arith, append_assoc, Bool, true, false, not, IsTrue, MatchBool, ◌↔◌, Option, Some, None, subst}
use Rattle.std.specs.Option.{MatchOption, is_some}
use Rattle.std.proofs.Math.ListN.{set}
use Rattle.std.proofs.lemmas.List.{drop_more, length-map, length-take-le, set_at, take_more}
use Rattle.std.proofs.Common.{eqb-true}
use Rattle.std.proofs.lemmas.List.{map-append}
use Rattle.glass_base.specs.Problem.{Problem}
use Rattle.cut_model.specs.declared.steps.Step.{Step}
use Rattle.plan_trace.specs.TraceRules.{Meets}
use Rattle.plan_box.specs.declared.frame.Frame.{Frame}
use Rattle.plan_box.specs.Decisions.{decided, all_decided}
use Rattle.plan_box.specs.Frames.{frame_of}
use Rattle.plan_box.specs.Ranges.{PlainBox, IsBox}
use Rattle.plan_box.proofs.Counts.{known_count}
use Rattle.box_bound.specs.declared.kept.Kept.{Kept}
use Rattle.box_bound.specs.Kept.{late_fixed}
use Rattle.box_bound.specs.Leastings.{IsFor, Leastings}

pub written_more : (f : Kept → Step) (kept : List Kept) (old new : List Step) (i : ℕ) (d : Kept) (e : Step) → i < length kept → length kept ≡ length old →
    new ≡ map f (take i kept) ++ drop i old → set new i (f (get_or kept i d)) ≡ map f (take (i + 1) kept) ++ drop (i + 1) old
written_more f kept old new i d e lt same is =
    let count : length (map f (take i kept)) ≡ i = length-map (take i kept) f ∙ length-take-le i kept (omega arith) in
    ap (λ (xs : List Step). set xs i (f (get_or kept i d))) (is ∙ ap (λ (ys : List Step). map f (take i kept) ++ ys) (drop_more old i e (omega arith)))
    ∙ set_at (map f (take i kept)) (get_or old i e) (drop (i + 1) old) (f (get_or kept i d)) i count
    ∙ sym (ap (λ (ys : List Step). ys ++ drop (i + 1) old) (ap (map f) (take_more kept i d lt) ∙ map-append f (take i kept) (get_or kept i d ∷ [])) ∙ append_assoc (map f (take i kept)) (f (get_or kept i d) ∷ []) (drop (i + 1) old))

pub overwritten_more : (numbers old new : List Step) (i : ℕ) (d e : Step) → i < length numbers → length numbers ≡ length old → new ≡ take i numbers ++ drop i old →
    set new i (get_or numbers i d) ≡ take (i + 1) numbers ++ drop (i + 1) old
overwritten_more numbers old new i d e lt same is =
    ap (λ (xs : List Step). set xs i (get_or numbers i d)) (is ∙ ap (λ (ys : List Step). take i numbers ++ ys) (drop_more old i e (omega arith)))
    ∙ set_at (take i numbers) (get_or old i e) (drop (i + 1) old) (get_or numbers i d) i (length-take-le i numbers (omega arith))
    ∙ sym (ap (λ (ys : List Step). ys ++ drop (i + 1) old) (take_more numbers i d lt) ∙ append_assoc (take i numbers) (get_or numbers i d ∷ []) (drop (i + 1) old))

-- where all steps are decided there is one for each item
pub whole_count : (b : Problem) (x : PlainBox) (v : Leastings) → IsFor b x v → IsTrue (all_decided x.ranges) → IsBox x → x.frame ≡ frame_of b → length v.steps ≡ length b.items
whole_count b x v h whole box same =
    omega (
      arith,
      length-map v.steps late_fixed,
      ap length h.values,
      known_count b x.ranges,
      eqb-true (length (decided x.ranges)) (length x.ranges) whole,
      box.each_step,
      ap (λ (f : Frame). f.items) same,
    )

-- a search for what breaks a rule
pub none_found : {T : Type 0} (P : Type 0) (B : T → Type 0) (o : Option T) (r : Bool) → ((x : T) → B x → ¬ P) → is_some o ≡ not r → MatchOption o P B → IsTrue r ↔ P
none_found P B None true breaks e h = ((λ _. h), (λ _. refl))
none_found P B None false breaks e h = absurd (cc e)
none_found P B (Some x) true breaks e h = absurd (cc e)
none_found P B (Some x) false breaks e h = ((λ t. absurd (cc t)), (λ p. absurd (breaks x h p)))

-- a trace in which nothing breaks a rule
pub met_from : (b : Problem) (ss other : List Step) (r : Bool) → r ≡ false → ss ≡ other → MatchBool r (¬ Meets b ss) (Meets b ss) → Meets b other
met_from b ss other true kept e m = absurd (cc kept)
met_from b ss other false kept e m = subst (Meets b) e m
