-- What `judge` answers to an instance and the text of a plan.
use Rattle.std.specs.Prelude.{◌≡◌, ◌⊎◌, ◌++◌, ℕ, List, Option, None, Result, Ok, Err, codes, All}
use Rattle.std.specs.Fmt.{decimal}
use Rattle.glass_base.specs.Problem.{Problem}
use Rattle.glass_base.specs.declared.role.Role.TheVariants as role
use Rattle.cut_model.specs.declared.broken.Broken.{Broken}
use Rattle.cut_model.specs.Families.{families_of, rows_of}
use Rattle.cut_model.specs.Lawful.{IsLawful, plate_rows}
use Rattle.cut_model.specs.Loss.{loss_of}
use Rattle.cut_model.specs.Rules.{KeepsCutRules}
use Rattle.cut_model.specs.Tree.{Forest}
use Rattle.cut_model.specs.Words.{breach_text}
use Rattle.cut_rules.specs.Breaches.{IsBreach as IsCutBreach}
use Rattle.stack_order.specs.Breaches.{IsBreach as IsOrderBreach}
use Rattle.stack_order.specs.Cuts.{cuts_of}
use Rattle.plan_csv.specs.PlanTexts.{plan_said}
use Rattle.plan_csv.specs.declared.bad_plan.BadPlan.{BadPlan}
use Rattle.plan_csv.specs.declared.bad_plan.BadPlan.TheVariants as bad_plan
use Rattle.run_frame.specs.Answers.{Answer, Refused, only_lines, refusal}
use Rattle.run_frame.specs.declared.refusals.Refusal.{Refusal}
use Rattle.run_frame.specs.declared.status.Status.TheVariants as status

-- the line that tells a breach
abbrev pub unlawful_line : Broken → List ℕ
unlawful_line b = breach_text b ++ codes "\n"

abbrev pub unlawful : Broken → Answer
unlawful b = only_lines status.Unlawful (unlawful_line b)

abbrev pub lawful_line : ℕ → List ℕ
lawful_line loss = codes "lawful loss " ++ decimal loss ++ codes "\n"

-- the loss of a lawful plan
abbrev pub lawful : ℕ → Answer
lawful loss = only_lines status.Done (lawful_line loss)

-- the first breach of a plan: the rules on cuts come before those on the order of items
abbrev pub IsFirstBroken : Problem → Forest → Broken → Type 0
IsFirstBroken b plan broken =
    IsCutBreach b (families_of b plan) broken
    ⊎ (All (KeepsCutRules b) (families_of b plan)
    × IsOrderBreach b (cuts_of b.items (rows_of b plan)) (plate_rows (rows_of b plan)) broken)

-- the answer to a plan that is not lawful: its first breach
abbrev pub TellsBreach : Problem → Forest → Answer → Type 0
TellsBreach b plan answer = (broken : Broken) × ¬ IsLawful b plan × IsFirstBroken b plan broken × (answer ≡ unlawful broken)

-- the answer to a plan: its loss exactly where it is lawful, else its first breach
abbrev pub Judges : Problem → Forest → Answer → Type 0
Judges b plan answer = (IsLawful b plan × (answer ≡ lawful (loss_of b plan))) ⊎ TellsBreach b plan answer

-- the refusals of a text that is no plan
abbrev pub plan_refusal : BadPlan → Option Refusal
plan_refusal bad_plan.Memory = None
plan_refusal (bad_plan.Record row fields) = refusal role.Plan 20 row fields
plan_refusal (bad_plan.Number row column) = refusal role.Plan 21 row column
plan_refusal (bad_plan.Parent row) = refusal role.Plan 22 row 0
plan_refusal (bad_plan.Level row cut) = refusal role.Plan 23 row cut
plan_refusal (bad_plan.Size row column) = refusal role.Plan 24 row column
plan_refusal (bad_plan.Kind row) = refusal role.Plan 25 row 0

-- the answer to a text that is no plan
abbrev pub PlanRefused : BadPlan → Answer → Type 0
PlanRefused reason answer = Refused (plan_refusal reason) answer

-- the answer to a text that says no plan
abbrev pub TellsNoPlan : Problem → List ℕ → Answer → Type 0
TellsNoPlan b text answer = (reason : BadPlan) × (plan_said b text ≡ Err reason) × PlanRefused reason answer

-- the answer to the plan that was said, or to its refusal
abbrev pub JudgesSaid : Problem → Result Forest BadPlan → Answer → Type 0
JudgesSaid b (Ok plan) answer = Judges b plan answer
JudgesSaid b (Err reason) answer = PlanRefused reason answer

-- the answer to the text of a plan
abbrev pub JudgesText : Problem → List ℕ → Answer → Type 0
JudgesText b text answer = JudgesSaid b (plan_said b text) answer
