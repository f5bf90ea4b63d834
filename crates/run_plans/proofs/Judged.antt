-- What a plan is that breaks a rule, and one that breaks none.
use Rattle.std.proofs.Common.{All, inl, inr, Some, None}
use Rattle.glass_base.specs.Problem.{Problem}
use Rattle.cut_model.specs.declared.broken.Broken.{Broken}
use Rattle.cut_model.specs.Families.{families_of, rows_of}
use Rattle.cut_model.specs.Lawful.{KeepsOrderRules, plate_rows}
use Rattle.cut_model.specs.Rules.{KeepsCutRules}
use Rattle.cut_model.specs.Shape.{IsPlanShaped}
use Rattle.cut_model.specs.Tree.{Forest}
use Rattle.cut_rules.specs.Breaches.{IsBreach as IsCutBreach}
use Rattle.stack_order.specs.Breaches.{IsBreach as IsOrderBreach}
use Rattle.stack_order.specs.Cuts.{cuts_of}
use Rattle.run_plans.specs.Breaches.{IsBreachIfAny}

-- a breach of a rule on cuts
pub broken_cuts : (b : Problem) (plan : Forest) (broken : Broken) → ¬ All (KeepsCutRules b) (families_of b plan) → IsCutBreach b (families_of b plan) broken → IsBreachIfAny b plan (Some broken)
broken_cuts b plan broken fails breach = (λ keeps. fails keeps.cuts, inl breach)

-- a breach of a rule on the order of items, where those on cuts are kept
pub broken_order : (b : Problem) (plan : Forest) (broken : Broken) → All (KeepsCutRules b) (families_of b plan) → ¬ KeepsOrderRules b (rows_of b plan) →
    IsOrderBreach b (cuts_of b.items (rows_of b plan)) (plate_rows (rows_of b plan)) broken → IsBreachIfAny b plan (Some broken)
broken_order b plan broken cuts fails breach = (λ keeps. fails keeps.order, inr (cuts, breach))

-- no breach
pub unbroken : (b : Problem) (plan : Forest) → IsPlanShaped plan → All (KeepsCutRules b) (families_of b plan) → KeepsOrderRules b (rows_of b plan) → IsBreachIfAny b plan None
unbroken b plan shape cuts order = record { shape = shape; cuts = cuts; order = order }
