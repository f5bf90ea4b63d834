-- A draft on its way.
use Rattle.std.specs.Prelude.{◌≡◌, ℕ, suc, ◌+◌, ◌==◌, List, [], ◌∷◌, ◌++◌, cond, length, replicate}
use Rattle.std.specs.List.{flat_map}
use Rattle.glass_base.specs.Problem.{Problem, stack_at}
use Rattle.cut_model.specs.declared.steps.Step.{Step}
use Rattle.cut_model.specs.Numbers.{numbers_from}
use Rattle.plan_trace.specs.Marks.{drawn, no_cut}
use Rattle.plan_trace.specs.TraceRules.{Meets}
use Rattle.plan_trace.specs.inner.Laid.{draws_of}
use Rattle.plan_draft.specs.Drafts.{AreDrafted, IsNext, StopsAt}
use Rattle.plan_draft.specs.inner.Lasts.{last_cut}

-- the steps so far meet the rules; so many plates are begun, and the last strip ends at `right`
pub record IsUnderWay (b : Problem) (steps : List Step) (plates right : ℕ) : Type 0 where
  pub meets : Meets b steps
  pub plates_are : plates ≡ (last_cut b [] no_cut steps).plates
  pub right_is : right ≡ (last_cut b [] no_cut steps).b

-- one more step, the least one
pub record IsOneMore (b : Problem) (steps : List Step) (stack : ℕ) (more : List Step) (plates right : ℕ) : Type 0 where
  pub step : Step
  pub next : IsNext b steps stack step
  pub more_is : more ≡ steps ++ step ∷ []
  pub under_way : IsUnderWay b more plates right

-- how often a stack stands among these
abbrev pub drawn_in : List ℕ → ℕ → ℕ
drawn_in [] n = 0
drawn_in (stack ∷ later) n = cond (stack == n) (suc (drawn_in later n)) (drawn_in later n)

-- a step for each of these stacks more
pub record AreMore (b : Problem) (steps : List Step) (stacks : List ℕ) (more : List Step) (plates right : ℕ) : Type 0 where
  pub goes_on : (final : List Step) (later : List ℕ) → AreDrafted b more later final → AreDrafted b steps (stacks ++ later) final
  pub stops : (number : ℕ) (later : List ℕ) → StopsAt b more later number → StopsAt b steps (stacks ++ later) number
  pub under_way : IsUnderWay b more plates right
  pub draws : (n : ℕ) → drawn (draws_of more) n ≡ drawn (draws_of steps) n + drawn_in stacks n

-- behind some of these stacks there is no step
abbrev pub StopsIn : Problem → List Step → List ℕ → ℕ → Type 0
StopsIn b steps stacks number = (later : List ℕ) → StopsAt b steps (stacks ++ later) number

-- the stacks from this one on, each as often as it has items
abbrev pub order_from : Problem → ℕ → ℕ → List ℕ
order_from b stack more = flat_map (λ n. replicate (length (stack_at b n)) n) (numbers_from stack more)
