-- Which of two plans is the better one.
use Rattle.std.specs.Prelude.{◌≡◌, ◌≤◌, ◌⊎◌, Option, Some, None, IfSome, MatchOption}
use Rattle.glass_base.specs.Problem.{Problem}
use Rattle.cut_model.specs.declared.steps.Trace.{Trace}
use Rattle.cut_model.specs.Steps.{length_of}

-- the trace takes no more glass than the other one, if there is one
abbrev pub IsNoLongerThan : Problem → Option Trace → Trace → Type 0
IsNoLongerThan b other trace = IfSome other (λ o. length_of b trace.steps.items ≤ length_of b o.steps.items)

-- the trace is one of these two, and takes no more glass than either
pub record IsBestOf (b : Problem) (first second : Option Trace) (trace : Trace) : Type 0 where
  pub one : (first ≡ Some trace) ⊎ (second ≡ Some trace)
  pub as_short_as_first : IsNoLongerThan b first trace
  pub as_short_as_second : IsNoLongerThan b second trace

-- the better of two plans; there is none only where there is neither
abbrev pub IsBetterOf : Problem → Option Trace → Option Trace → Option Trace → Type 0
IsBetterOf b first second better = MatchOption better ((first ≡ None) × (second ≡ None)) (IsBestOf b first second)
