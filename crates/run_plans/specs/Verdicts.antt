-- What is found of a plan.
use Rattle.std.specs.Prelude.{◌≡◌, ℕ, List}
use Rattle.glass_base.specs.Problem.{Problem}
use Rattle.cut_model.specs.Lawful.{IsLawful}
use Rattle.cut_model.specs.Loss.{loss_of}
use Rattle.cut_model.specs.Tree.{Forest}
use Rattle.cut_model.specs.declared.broken.Verdict.{Verdict}
use Rattle.cut_model.specs.declared.broken.Verdict.TheVariants as verdict
use Rattle.run_plans.specs.Judgements.{IsFirstBroken, lawful_line, unlawful_line}

-- the plan is lawful and has this loss, or it is not and this is its first breach
abbrev pub IsVerdict : Problem → Forest → Verdict → Type 0
IsVerdict b plan (verdict.Lawful loss) = IsLawful b plan × (loss ≡ loss_of b plan)
IsVerdict b plan (verdict.Broken broken) = (¬ IsLawful b plan) × IsFirstBroken b plan broken

-- the line that tells it
abbrev pub verdict_line : Verdict → List ℕ
verdict_line (verdict.Lawful loss) = lawful_line loss
verdict_line (verdict.Broken broken) = unlawful_line broken
