-- What the plant may rely on, without a word on certificates: each record has what its sentence says.
use Rattle.std.specs.Prelude.{◌≡◌, ◌≤◌, ◌++◌, ℕ, List, [], ◌∷◌, codes, Option, Some, Ok}
use Rattle.std.specs.Fmt.{decimal}
use Rattle.glass_base.specs.Problem.{Problem}
use Rattle.glass_base.specs.declared.role.Role.TheVariants as role
use Rattle.glass_io.specs.Told.{Contents, SameContents}
use Rattle.cut_model.specs.Lawful.{IsLawful}
use Rattle.cut_model.specs.Loss.{loss_of}
use Rattle.cut_model.specs.Tree.{Forest}
use Rattle.cert_log.specs.Good.{Reaches}
use Rattle.cert_log.specs.Texts.{loss_text}
use Rattle.cert_resume.specs.Joins.{IsAtMost}
use Rattle.command_line.specs.Grammar.{Line, lead_in}
use Rattle.command_line.specs.declared.kinds.Lead.TheVariants as lead
use Rattle.plan_csv.specs.PlanTexts.{plan_said}
use Rattle.plan_csv.specs.Solutions.{solution_text}
use Rattle.plan_freeze.specs.Frozen.{BeginsWith}
use Rattle.run_frame.specs.Answers.{Store}
use Rattle.run_checks.specs.Checks.{IsLawfulToo, loss_in}
use Rattle.glass_run.specs.Commands.{cert_name, plan_name}
use Rattle.glass_run.specs.Headlines.{ReadBy, SaidBy}
use Rattle.run_search.specs.Plans.{HasLoss, ended_lines, plan_stores}
use Rattle.run_frame.specs.Runs.{Prints, Stands, World}
use Rattle.run_checks.specs.Said.{IsPlanIn}
use Rattle.run_frame.specs.Texts.{Texts, text_for, text_or_empty}
use Rattle.run_frame.specs.Codes.{word_of}
use Rattle.run_frame.specs.declared.status.Status.{Status}
use Rattle.run_frame.specs.declared.status.Status.TheVariants as status

-- the first three lines say how a search ended, its loss and its bound
abbrev pub PrintsEnd : Status → Option ℕ → Option ℕ → World → World → Type 0
PrintsEnd result loss bound old new = (later : List ℕ) × Prints (ended_lines (word_of result) loss bound ++ later) old.paper new.paper

-- these files are stored, and then one more under the second name
abbrev pub StoresFirst : Line → List Store → World → World → Type 0
StoresFirst line stores old new = (bytes : List ℕ) × Stands (stores ++ record { name = cert_name line; bytes = bytes } ∷ []) old.shelf.contents new.shelf.contents

-- what a plan and a bound say of an instance, by how the search ended
pub record IsBounded (b : Problem) (plan : Option Forest) (loss bound : Option ℕ) (result : Status) : Type 0 where
  -- the plan, if there is one, is lawful and has this loss
  pub plan_is : HasLoss b loss plan
  -- every lawful plan loses at least the bound; where there is no bound, there is no lawful plan
  pub bounds : (other : Forest) → IsLawful b other → Reaches bound (loss_of b other)
  pub optimal : result ≡ status.Optimal → (other : Forest) → IsLawful b other → Reaches loss (loss_of b other)
  pub infeasible : result ≡ status.Infeasible → (other : Forest) → ¬ IsLawful b other

-- the files say an instance; a plan of it and a bound are printed, and the plan's text is stored as OUT, if there is a plan
pub record FindsPlan (line : Line) (held : Contents) (old new : World) (result : Status) : Type 0 where
  pub texts : Texts
  pub b : Problem
  pub reads : SaidBy line held texts b
  pub plan : Option Forest
  pub loss : Option ℕ
  pub bound : Option ℕ
  pub bounded : IsBounded b plan loss bound result
  pub stored : StoresFirst line (plan_stores b (plan_name line) plan) old new
  pub prints : PrintsEnd result loss bound old new

-- the same, and PLAN says a lawful plan, or none, than which the printed one is not worse
pub record ResumesPlan (line : Line) (held : Contents) (old new : World) (result : Status) : Type 0 where
  pub found : FindsPlan line held old new result
  pub before : Option Forest
  pub said : IsPlanIn found.b (text_for found.texts role.Plan) before
  pub lawful : IsLawfulToo found.b before
  pub no_worse : IsAtMost found.loss (loss_in found.b before)

-- PLAN says a lawful plan; one that begins with its first plates is stored as OUT, and its loss and a bound on all such plans are printed
pub record FindsPlanBehind (line : Line) (held : Contents) (old new : World) (result : Status) : Type 0 where
  pub texts : Texts
  pub b : Problem
  pub reads : ReadBy line held texts b
  pub before : Forest
  pub said : plan_said b (text_or_empty texts role.Plan) ≡ Ok before
  pub lawful_before : IsLawful b before
  pub plan : Forest
  pub lawful : IsLawful b plan
  pub begins : BeginsWith (lead_in line lead.Frozen) before plan
  pub no_worse : loss_of b plan ≤ loss_of b before
  pub bound : Option ℕ
  pub bounds : (other : Forest) → BeginsWith (lead_in line lead.Frozen) before other → IsLawful b other → Reaches bound (loss_of b other)
  pub optimal : result ≡ status.Optimal → (other : Forest) → BeginsWith (lead_in line lead.Frozen) before other → IsLawful b other → loss_of b plan ≤ loss_of b other
  pub stored : StoresFirst line (record { name = plan_name line; bytes = solution_text b plan } ∷ []) old new
  pub prints : PrintsEnd result (Some (loss_of b plan)) bound old new

-- a bound and a number of open boxes are printed
abbrev pub PrintsBound : Option ℕ → World → World → Type 0
PrintsBound bound old new = (left : ℕ) × Prints (codes "accepted" ++ codes " bound " ++ loss_text bound ++ codes " open " ++ decimal left ++ codes "\n") old.paper new.paper

-- PLAN says a lawful plan, or none, and a bound on all lawful plans is printed
pub record AcceptsPlan (line : Line) (held : Contents) (old new : World) : Type 0 where
  pub texts : Texts
  pub b : Problem
  pub reads : ReadBy line held texts b
  pub plan : Option Forest
  pub said : IsPlanIn b (text_for texts role.Plan) plan
  pub lawful : IsLawfulToo b plan
  pub bound : Option ℕ
  pub bounds : (other : Forest) → IsLawful b other → Reaches bound (loss_of b other)
  pub unchanged : SameContents old.shelf.contents new.shelf.contents
  pub prints : PrintsBound bound old new

-- PLAN says a lawful plan, and a bound on all lawful plans that begin with its first plates is printed
pub record AcceptsPlanBehind (k : ℕ) (line : Line) (held : Contents) (old new : World) : Type 0 where
  pub texts : Texts
  pub b : Problem
  pub reads : ReadBy line held texts b
  pub plan : Forest
  pub said : plan_said b (text_or_empty texts role.Plan) ≡ Ok plan
  pub lawful : IsLawful b plan
  pub bound : Option ℕ
  pub bounds : (other : Forest) → BeginsWith k plan other → IsLawful b other → Reaches bound (loss_of b other)
  pub unchanged : SameContents old.shelf.contents new.shelf.contents
  pub prints : PrintsBound bound old new
