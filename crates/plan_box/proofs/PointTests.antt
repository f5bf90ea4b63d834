-- A point is tested by the trace at its least values.
use Rattle.std.proofs.Common.{◌≡◌, ◌↔◌, Bool, true, false, IsTrue, MatchBool, Option, Some, None, List, [], ◌∷◌, map, refl, inl, ap, ◌∙◌, subst}
use Rattle.std.specs.Option.{MatchOption, is_some}
use Rattle.glass_base.specs.Problem.{Problem}
use Rattle.cut_model.specs.declared.steps.Step.{Step}
use Rattle.plan_trace.specs.declared.level.Level.{Level}
use Rattle.plan_trace.specs.TraceRules.{Meets}
use Rattle.plan_box.specs.Decisions.{IsPoint, numbers_of}
use Rattle.plan_box.specs.Leasts.{Known, fixed, known, least_step, least_steps}
use Rattle.plan_box.specs.Ranges.{Ranges}
use Rattle.plan_box.specs.Reasons.{R1, R7}
use Rattle.plan_box.proofs.Probe.{point_least}
use Rattle.plan_box.proofs.Probed.{point_whole}

-- the least steps of steps that code keeps, each with its level and what is known of it
pub least_map : {X : Type 0} (level : X → Level) (known_in : X → Known) (steps : List X) → least_steps (map (λ x. fixed (level x) (known_in x)) steps) ≡ map (λ x. least_step (known_in x)) steps
least_map level known_in [] = refl
least_map level known_in (x ∷ steps) = ap (λ (ss : List Step). least_step (known_in x) ∷ ss) (least_map level known_in steps)

-- a point whose cuts have places has its least values as numbers
pub point_test : (b : Problem) (rs : List Ranges) (ss : List Step) (r : Bool) → IsPoint rs → ¬ R1 b rs → ss ≡ least_steps (known b rs) → MatchBool r (¬ Meets b ss) (Meets b ss) → IsTrue r ↔ R7 b rs
point_test b rs ss true point possible e m =
    let same : ss ≡ numbers_of rs = e ∙ point_least b rs point (λ h. possible (inl h)) in
    ((λ _. (point, point_whole rs point, subst (λ (xs : List Step). ¬ Meets b xs) same m)), (λ _. refl))
point_test b rs ss false point possible e m =
    let same : ss ≡ numbers_of rs = e ∙ point_least b rs point (λ h. possible (inl h)) in
    ((λ h. absurd (cc h)), (λ h. absurd (h.2 (subst (Meets b) same m))))

-- a search for what breaks a rule
pub some_found : {T : Type 0} (P : Type 0) (B : T → Type 0) (o : Option T) (r : Bool) → ((x : T) → B x → ¬ P) → r ≡ is_some o → MatchOption o P B → MatchBool r (¬ P) P
some_found P B None true breaks e h = absurd (cc e)
some_found P B None false breaks e h = h
some_found P B (Some x) true breaks e h = breaks x h
some_found P B (Some x) false breaks e h = absurd (cc e)

-- where a fact does not hold, a test says so
pub not_both : (r : Bool) (P : Type 0) → r ≡ false → (IsTrue r ↔ P) → ¬ P
not_both true P e h p = cc
not_both false P e h p = absurd (cc (h.1 p))
