use Rattle.std.proofs.Common.{◌≤◌, ℕ, List, arith, subst}
use Rattle.std.specs.Prelude.{Option, Some, None, IfNone, IfSome, Result, Ok, Err, MatchResult}
use Rattle.std.specs.Result.{result_ok}
use Rattle.glass_base.specs.Problem.{Problem}
use Rattle.cut_model.specs.declared.steps.Step.{Step}
use Rattle.cut_model.specs.declared.steps.Trace.{Trace}
use Rattle.cut_model.specs.Steps.{length_of}
use Rattle.first_plan.specs.FirstPlans.{IsFirstPlan, IsNoWorse}
use Rattle.first_plan.specs.inner.Betters.{IsBetterOf}
use Rattle.plan_draft.specs.Drafts.{HasNoDraft, IsDraft}
use Rattle.plan_draft.proofs.Ones.{draft_or_none, drafts_one}
use Rattle.plan_trace.specs.Claims.{IsComplete}

-- what is no longer than one draft is no longer than any, since there is one at the most
is_first : (b : Problem) (steps drafted : List Step) → IsComplete b steps → IsDraft b drafted → length_of b steps ≤ length_of b drafted → IsFirstPlan b steps
is_first b steps drafted complete is_draft no_longer = record {
  complete = complete;
  no_longer = λ other other_is. subst (λ d. length_of b steps ≤ length_of b d) (drafts_one b drafted other is_draft other_is) no_longer;
}

-- where there is no draft, any complete trace will do
is_first_without : (b : Problem) (number : ℕ) (steps : List Step) → HasNoDraft b number → IsComplete b steps → IsFirstPlan b steps
is_first_without b number steps none complete = record { complete = complete; no_longer = λ other other_is. absurd (draft_or_none b other number other_is none) }

-- the better of a draft and a complete trace is a first plan
pub shorter_is_first : (b : Problem) (drafted : Result Trace ℕ) (found better : Option Trace) → MatchResult drafted (λ trace. IsDraft b trace.steps.items) (HasNoDraft b)
    → IfSome better (λ trace. IsComplete b trace.steps.items) → IsBetterOf b (result_ok drafted) found better → IfSome better (λ trace. IsFirstPlan b trace.steps.items)
shorter_is_first b drafted found None is complete best = tt
shorter_is_first b (Ok trace) found (Some better) is complete best = is_first b better.steps.items trace.steps.items complete is best.as_short_as_first
shorter_is_first b (Err number) found (Some better) is complete best = is_first_without b number better.steps.items is complete

-- the better of a first plan and another trace is a first plan
pub better_is_first : (b : Problem) (first other better : Option Trace) → IfSome first (λ trace. IsFirstPlan b trace.steps.items) → IfNone first ((number : ℕ) × HasNoDraft b number)
    → IfSome better (λ trace. IsComplete b trace.steps.items) → IsBetterOf b first other better → IfSome better (λ trace. IsFirstPlan b trace.steps.items)
better_is_first b first other None plan none complete best = tt
better_is_first b None other (Some better) plan none complete best = is_first_without b none.0 better.steps.items none.1 complete
better_is_first b (Some first) other (Some better) plan none complete best =
    record { complete = complete; no_longer = λ drafted is. omega (arith, best.as_short_as_first, plan.no_longer drafted is) }

-- there is none only where there was no first plan
pub better_is_none : (b : Problem) (first other better : Option Trace) → IfNone first ((number : ℕ) × HasNoDraft b number) → IsBetterOf b first other better
    → IfNone better ((number : ℕ) × HasNoDraft b number)
better_is_none b first other None none best = subst (λ (o : Option Trace). IfNone o ((number : ℕ) × HasNoDraft b number)) best.0 none
better_is_none b first other (Some better) none best = tt

-- it is no worse than the other trace
pub better_is_no_worse : (b : Problem) (first other better : Option Trace) → IsBetterOf b first other better → IsNoWorse b other better
better_is_no_worse b first None better best = tt
better_is_no_worse b first (Some other) None best = cc best.1
better_is_no_worse b first (Some other) (Some better) best = best.as_short_as_second

-- what is no worse than a plan is no worse than one than which this is no worse
pub no_worse_than : (b : Problem) (known between found : Option Trace) → IsNoWorse b known between → IsNoWorse b between found → IsNoWorse b known found
no_worse_than b None between found first second = tt
no_worse_than b (Some known) None found first second = absurd first
no_worse_than b (Some known) (Some between) None first second = absurd second
no_worse_than b (Some known) (Some between) (Some found) first second = omega (arith, first, second)
