-- What a user may conclude from how a run of the program that draws ended.
use Rattle.std.specs.Prelude.{◌≡◌, ℕ, List, Some, Ok}
use Rattle.glass_base.specs.Problem.{Problem}
use Rattle.glass_base.specs.declared.role.Role.TheVariants as role
use Rattle.glass_io.specs.Told.{Contents, Stored}
use Rattle.cut_model.specs.Tree.{Forest}
use Rattle.plan_csv.specs.PlanTexts.{plan_said}
use Rattle.run_frame.specs.Answers.{Answer}
use Rattle.command_line.specs.Grammar.{PictureLine, files_of, picture_line_of, stored_as}
use Rattle.command_line.specs.declared.kinds.Product.TheVariants as product
use Rattle.picture_run.specs.Pictures.{Answers, Draws}
use Rattle.run_frame.specs.Runs.{LineRun, Prints, World}
use Rattle.run_frame.specs.Texts.{Texts, text_for, text_or_empty, texts_of}
use Rattle.run_plans.specs.Instances.{IsInstanceOf}
use Rattle.run_plans.specs.Verdicts.{verdict_line}
use Rattle.run_frame.specs.declared.status.Status.{Status}

-- these words are a line of the program that draws, the files told what they held, and the run ended so
pub record PictureEnded (words : List (List ℕ)) (line : PictureLine) (held : Contents) (old new : World) (result : Status) : Type 0 where
  pub line_is : picture_line_of words ≡ Some line
  pub told : old.shelf.contents ≡ Some held
  pub runs : LineRun Answers line old new result

-- the files say an instance; OUT holds a picture of the plan that PLAN says, and of what was found of it: its loss where it is lawful, and else its first breach; and this is printed
pub record StoresPicture (line : PictureLine) (held : Contents) (old new : World) : Type 0 where
  pub texts : Texts
  pub b : Problem
  pub plan : Forest
  pub answer : Answer
  pub texts_are : texts_of held (files_of line) ≡ Ok texts
  pub instance_is : IsInstanceOf texts (text_for texts role.Defects) b
  pub said : plan_said b (text_or_empty texts role.Plan) ≡ Ok plan
  pub draws : Draws b (stored_as line product.Picture) plan answer
  pub stored : Stored (stored_as line product.Picture) draws.picture old.shelf.contents new.shelf.contents
  pub prints : Prints (verdict_line draws.found) old.paper new.paper
