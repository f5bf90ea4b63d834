-- What `sheet` answers to an instance and the text of a plan.
use Rattle.std.specs.Prelude.{◌≡◌, ◌⊎◌, ◌++◌, ℕ, List, [], ◌∷◌, length, Result, Ok, Err, codes}
use Rattle.std.specs.Fmt.{decimal}
use Rattle.glass_base.specs.Problem.{Problem}
use Rattle.cut_model.specs.declared.broken.Broken.{Broken}
use Rattle.cut_model.specs.Lawful.{IsLawful}
use Rattle.cut_model.specs.Tree.{Forest}
use Rattle.cut_sheet.specs.declared.instr.Instr.{Instr}
use Rattle.cut_sheet.specs.Sheets.{sheet_in}
use Rattle.cut_sheet.specs.Texts.{sheet_text}
use Rattle.plan_csv.specs.PlanTexts.{plan_said}
use Rattle.plan_csv.specs.declared.bad_plan.BadPlan.{BadPlan}
use Rattle.run_frame.specs.Answers.{Answer}
use Rattle.run_plans.specs.Judgements.{IsFirstBroken, PlanRefused, unlawful}
use Rattle.run_frame.specs.declared.status.Status.TheVariants as status

-- the line that tells how many instructions a sheet has
abbrev pub instructions_line : List Instr → List ℕ
instructions_line sheet = codes "instructions " ++ decimal (length sheet) ++ codes "\n"

-- the text of a sheet is stored under this name
abbrev pub sheeted : List ℕ → List Instr → Answer
sheeted name sheet = record {
  status = status.Done;
  stores = record { name = name; bytes = sheet_text sheet } ∷ [];
  lines = instructions_line sheet;
}

-- the answer to a plan: its sheet is stored exactly where it is lawful, else its first breach is told
abbrev pub Sheets : Problem → List ℕ → Forest → Answer → Type 0
Sheets b name plan answer =
    (IsLawful b plan × (answer ≡ sheeted name (sheet_in plan)))
    ⊎ ((broken : Broken) × (¬ IsLawful b plan) × IsFirstBroken b plan broken × (answer ≡ unlawful broken))

-- the answer to the plan that was said, or to its refusal
abbrev pub SheetsSaid : Problem → List ℕ → Result Forest BadPlan → Answer → Type 0
SheetsSaid b name (Ok plan) answer = Sheets b name plan answer
SheetsSaid b name (Err reason) answer = PlanRefused reason answer

-- the answer to the text of a plan
abbrev pub SheetsText : Problem → List ℕ → List ℕ → Answer → Type 0
SheetsText b name text answer = SheetsSaid b name (plan_said b text) answer
