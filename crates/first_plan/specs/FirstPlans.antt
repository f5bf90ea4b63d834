-- What is promised of a first plan: it can be cut, and takes no more glass than the draft. How good it is beyond that is not promised.
use Rattle.std.specs.Prelude.{◌≤◌, List, Option, IfSome, MatchOption}
use Rattle.glass_base.specs.Problem.{Problem}
use Rattle.cut_model.specs.declared.steps.Step.{Step}
use Rattle.cut_model.specs.declared.steps.Trace.{Trace}
use Rattle.cut_model.specs.Steps.{length_of}
use Rattle.plan_draft.specs.Drafts.{IsDraft}
use Rattle.plan_trace.specs.Claims.{IsComplete}

-- where there is a draft, the steps take no more glass than it does
abbrev pub IsNoLongerThanDraft : Problem → List Step → Type 0
IsNoLongerThanDraft b steps = (drafted : List Step) → IsDraft b drafted → length_of b steps ≤ length_of b drafted

-- a trace with a step for each item that meets the rules and is no longer than the draft
pub record IsFirstPlan (b : Problem) (steps : List Step) : Type 0 where
  pub complete : IsComplete b steps
  pub no_longer : IsNoLongerThanDraft b steps

-- what more work makes of a first plan: a first plan too, that takes no more glass
pub record IsImproved (b : Problem) (before steps : List Step) : Type 0 where
  pub plan : IsFirstPlan b steps
  pub no_longer : length_of b steps ≤ length_of b before

-- where a plan is known, one was found that takes no more glass
abbrev pub IsNoWorse : Problem → Option Trace → Option Trace → Type 0
IsNoWorse b known found = IfSome known (λ k. MatchOption found ⊥ (λ t. length_of b t.steps.items ≤ length_of b k.steps.items))
