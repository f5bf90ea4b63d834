-- The first breach of a plan, as code finds it.
use Rattle.std.specs.Prelude.{Option, MatchOption}
use Rattle.glass_base.specs.Problem.{Problem}
use Rattle.cut_model.specs.declared.broken.Broken.{Broken}
use Rattle.cut_model.specs.Lawful.{IsLawful}
use Rattle.cut_model.specs.Tree.{Forest}
use Rattle.run_plans.specs.Judgements.{IsFirstBroken}

-- the plan is lawful and this is none, or it is not and this is its first breach
abbrev pub IsBreachIfAny : Problem → Forest → Option Broken → Type 0
IsBreachIfAny b plan found = MatchOption found (IsLawful b plan) (λ broken. ¬ IsLawful b plan × IsFirstBroken b plan broken)
