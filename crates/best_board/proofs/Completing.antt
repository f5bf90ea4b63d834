-- What code asks of a trace and of an instance.
use Rattle.std.proofs.Common.{◌≡◌, ℕ, ◌+◌, ◌<◌, List, [], ◌∷◌, ◌++◌, length, take, Bool, IsTrue, MatchResult, Result, Ok, Err, refl, sym, ap, subst, ◌∙◌, ◌↔◌, is_ok, slice_index_or, arith}
use Rattle.std.proofs.lemmas.List.{take_more}
use Rattle.glass_base.specs.Plates.{Width}
use Rattle.glass_base.specs.Problem.{Problem}
use Rattle.cut_model.specs.declared.steps.Step.{Step}
use Rattle.plan_trace.specs.Broken.{IsFirstBroken}
use Rattle.plan_trace.specs.Claims.{IsComplete}
use Rattle.plan_trace.specs.TraceRules.{Meets}
use Rattle.plan_trace.specs.declared.meeting.TraceBroken.{TraceBroken}
use Rattle.plan_trace.proofs.Breaches.{first_broken_not_meets}

-- a trace with a step for each item is complete exactly where no rule is broken first
pub is_complete : (b : Problem) (steps : List Step) (r : Result (Unit {0}) TraceBroken) (ok : Bool) → ok ≡ is_ok r → length steps ≡ length b.items
    → MatchResult r (λ _. Meets b steps) (λ (broken : TraceBroken). IsFirstBroken b steps broken.rule broken.step) → IsTrue ok ↔ IsComplete b steps
is_complete b steps (Ok u) ok e each meets = ((λ _. record { each_item = each; meets = meets }), (λ _. e))
is_complete b steps (Err broken) ok e each first =
    ((λ (h : IsTrue ok). cc (sym e ∙ h)), (λ (h : IsComplete b steps). absurd (first_broken_not_meets b steps broken.rule broken.step first h.meets)))

-- the width of the next plate
pub next_width : (b : Problem) (plate : ℕ) → plate < length b.widths → take (plate + 1) b.widths ≡ take plate b.widths ++ Width b plate ∷ []
unfolding Width
next_width b plate lt = take_more b.widths plate b.params.width lt
