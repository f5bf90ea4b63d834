-- What is claimed of traces that meet the rules, and of their canonical plans.
use Rattle.std.specs.Prelude.{◌≡◌, ◌↔◌, ℕ, ◌+◌, ◌*◌, ◌≤◌, List, length}
use Rattle.glass_base.specs.Items.{area_of}
use Rattle.glass_base.specs.Problem.{Problem, IsProblem}
use Rattle.cut_model.specs.declared.plan.Plan.{Plan}
use Rattle.cut_model.specs.declared.steps.Step.{Step}
use Rattle.cut_model.specs.Fits.{Fits}
use Rattle.cut_model.specs.Lawful.{IsLawful}
use Rattle.cut_model.specs.Loss.{loss_of}
use Rattle.cut_model.specs.Steps.{KeepsKinds, length_of}
use Rattle.cut_model.specs.Traces.{trace_of}
use Rattle.cut_model.specs.Tree.{Forest, count, tree}
use Rattle.plan_trace.specs.Broken.{IsFirstBroken}
use Rattle.plan_trace.specs.Canonical.{canonical}
use Rattle.plan_trace.specs.TraceRules.{Meets}

-- the trace has a step for each item and meets the rules
pub record IsComplete (b : Problem) (steps : List Step) : Type 0 where
  pub each_item : length steps ≡ length b.items
  pub meets : Meets b steps

-- the canonical plan of a complete trace is lawful, fits, and has at most twelve rows for each item
pub record IsGoodPlan (b : Problem) (plan : Forest) : Type 0 where
  pub lawful : IsLawful b plan
  pub fits : Fits plan
  pub few : count plan ≤ 12 * length b.items

abbrev pub CanonicalIsGood : Type 0
CanonicalIsGood = (b : Problem) → IsProblem b → (steps : List Step) → IsComplete b steps → IsGoodPlan b (canonical b steps)

-- it loses what the trace's length has beside the items
abbrev pub CanonicalLoses : Type 0
CanonicalLoses =
    (b : Problem) → IsProblem b → (steps : List Step) → IsComplete b steps
    → loss_of b (canonical b steps) + area_of b.items ≡ b.params.height * length_of b steps

-- its trace is that trace
abbrev pub CanonicalIsTraced : Type 0
CanonicalIsTraced = (b : Problem) → IsProblem b → (steps : List Step) → Meets b steps → trace_of b (canonical b steps) ≡ steps

-- it keeps the first rule as lists of steps have it, so that it has a length where it has a step
abbrev pub MeetsKeepsKinds : Type 0
MeetsKeepsKinds = (b : Problem) → IsProblem b → (steps : List Step) → Meets b steps → KeepsKinds b.params steps

-- where a rule is broken the trace does not meet the rules
abbrev pub BrokenDoesNotMeet : Type 0
BrokenDoesNotMeet = (b : Problem) → (steps : List Step) → (rule step : ℕ) → IsFirstBroken b steps rule step → ¬ Meets b steps

-- there is one first broken rule, with one first step
abbrev pub BrokenIsOne : Type 0
BrokenIsOne =
    (b : Problem) → (steps : List Step) → (rule step other at : ℕ) → IsFirstBroken b steps rule step → IsFirstBroken b steps other at
    → (rule ≡ other) × (step ≡ at)

-- the trace of a lawful plan is complete
abbrev pub LawfulMeets : Type 0
LawfulMeets = (b : Problem) → IsProblem b → (plan : Forest) → IsLawful b plan → IsComplete b (trace_of b plan)

-- and it loses no more than the plan
abbrev pub LawfulLoses : Type 0
LawfulLoses =
    (b : Problem) → IsProblem b → (plan : Forest) → IsLawful b plan
    → b.params.height * length_of b (trace_of b plan) ≤ loss_of b plan + area_of b.items

-- the plan is lawful, and these are its steps
pub record HasTrace (b : Problem) (plan : Plan) (steps : List Step) : Type 0 where
  pub lawful : IsLawful b (tree plan)
  pub steps_are : trace_of b (tree plan) ≡ steps

-- a trace is complete exactly where some lawful plan has it
abbrev pub CompleteExactly : Type 0
CompleteExactly = (b : Problem) → IsProblem b → (steps : List Step) → IsComplete b steps ↔ ((plan : Plan) × HasTrace b plan steps)
