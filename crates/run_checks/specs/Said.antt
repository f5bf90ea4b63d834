-- What the texts of a plan and of a certificate say.
use Rattle.std.specs.Prelude.{◌≡◌, ℕ, List, Option, Some, None, Ok}
use Rattle.glass_base.specs.Problem.{Problem}
use Rattle.cut_model.specs.Tree.{Forest}
use Rattle.plan_csv.specs.PlanTexts.{plan_said}
use Rattle.cert_log.specs.declared.certificate.Certificate.{Certificate}
use Rattle.cert_log.specs.Outcomes.{IsWhole}

-- the text of the plan says this plan, or there is no text and no plan
abbrev pub IsPlanIn : Problem → Option (List ℕ) → Option Forest → Type 0
IsPlanIn b (Some text) (Some plan) = plan_said b text ≡ Ok plan
IsPlanIn b None None = Unit {0}
IsPlanIn b _ _ = ⊥

-- what the texts of a plan and of a certificate say
pub record SayBoth (b : Problem) (plan_text : Option (List ℕ)) (cert_text : List ℕ) (plan : Option Forest) (c : Certificate) : Type 0 where
  pub plan_is : IsPlanIn b plan_text plan
  pub reading : IsWhole cert_text c
