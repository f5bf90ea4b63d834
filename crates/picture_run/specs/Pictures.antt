-- What the program that draws answers to an instance and the text of a plan.
use Rattle.std.specs.Prelude.{◌≡◌, ◌⊎◌, ℕ, List, [], ◌∷◌, Result, Ok, Err}
use Rattle.glass_base.specs.Problem.{Problem}
use Rattle.glass_base.specs.declared.role.Role.TheVariants as role
use Rattle.glass_io.specs.Told.{Contents}
use Rattle.cut_model.specs.Tree.{Forest}
use Rattle.plan_csv.specs.PlanTexts.{plan_said}
use Rattle.plan_csv.specs.declared.bad_plan.BadPlan.{BadPlan}
use Rattle.cut_model.specs.declared.broken.Verdict.{Verdict}
use Rattle.plan_picture.specs.Pictures.{IsPicture}
use Rattle.command_line.specs.Grammar.{PictureLine, files_of, stored_as}
use Rattle.command_line.specs.declared.kinds.Product.TheVariants as product
use Rattle.run_frame.specs.Answers.{Answer}
use Rattle.run_frame.specs.Texts.{AnswersFetched, Texts, text_for, text_or_empty, texts_of}
use Rattle.run_plans.specs.Instances.{InstanceRefused, IsInstanceOf}
use Rattle.run_plans.specs.Judgements.{PlanRefused}
use Rattle.run_plans.specs.Verdicts.{IsVerdict, verdict_line}
use Rattle.run_frame.specs.declared.status.Status.TheVariants as status

-- a picture is stored under this name, and these lines are printed
abbrev pub pictured : List ℕ → List ℕ → List ℕ → Answer
pictured name picture lines = record { status = status.Done; stores = record { name = name; bytes = picture } ∷ []; lines = lines }

-- the answer to a plan: a picture of it and of what was found of it is stored, and what was found is printed: its loss exactly where it is
-- lawful, else its first breach
pub record Draws (b : Problem) (name : List ℕ) (plan : Forest) (answer : Answer) : Type 0 where
  pub picture : List ℕ
  pub found : Verdict
  pub judged : IsVerdict b plan found
  pub is_picture : IsPicture b plan found picture
  pub answer_is : answer ≡ pictured name picture (verdict_line found)

-- the answer to the plan that was said, or to its refusal
abbrev pub DrawsSaid : Problem → List ℕ → Result Forest BadPlan → Answer → Type 0
DrawsSaid b name (Ok plan) answer = Draws b name plan answer
DrawsSaid b name (Err reason) answer = PlanRefused reason answer

-- the answer to the text of a plan
abbrev pub DrawsText : Problem → List ℕ → List ℕ → Answer → Type 0
DrawsText b name text answer = DrawsSaid b name (plan_said b text) answer

-- the answer to the texts of the files
abbrev pub DrawsTexts : List ℕ → Texts → Answer → Type 0
DrawsTexts name texts answer =
    ((b : Problem) × IsInstanceOf texts (text_for texts role.Defects) b × DrawsText b name (text_or_empty texts role.Plan) answer)
    ⊎ InstanceRefused texts (text_for texts role.Defects) answer

-- the right answers of a line to what stands under the names of its files: all files are fetched, in their order, before one is read
abbrev pub Answers : Contents → PictureLine → Answer → Type 0
Answers contents line answer = AnswersFetched (DrawsTexts (stored_as line product.Picture)) (texts_of contents (files_of line)) answer
