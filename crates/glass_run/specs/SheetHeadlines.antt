-- What a user may conclude from how a run of `sheet` or of `replay` ended.
use Rattle.std.specs.Prelude.{◌≡◌, List, Ok}
use Rattle.glass_base.specs.Problem.{Problem}
use Rattle.glass_base.specs.declared.role.Role.TheVariants as role
use Rattle.glass_io.specs.Told.{Contents, SameContents, Stored}
use Rattle.cut_model.specs.Lawful.{IsLawful}
use Rattle.cut_model.specs.Loss.{loss_of}
use Rattle.cut_model.specs.Tree.{Forest}
use Rattle.cut_sheet.specs.declared.instr.Instr.{Instr}
use Rattle.cut_sheet.specs.declared.instr.Made.{Made}
use Rattle.cut_sheet.specs.Areas.{MakesUp, waste_area}
use Rattle.cut_sheet.specs.Readings.{IsText}
use Rattle.cut_sheet.specs.Replays.{replayed}
use Rattle.cut_sheet.specs.Sheets.{pieces_of}
use Rattle.cut_sheet.specs.Texts.{sheet_text}
use Rattle.plan_csv.specs.PlanTexts.{plan_said}
use Rattle.command_line.specs.declared.kinds.Product.TheVariants as product
use Rattle.command_line.specs.Grammar.{stored_as, Line}
use Rattle.run_frame.specs.Answers.{Answer}
use Rattle.glass_run.specs.Commands.{}
use Rattle.glass_run.specs.Headlines.{ReadBy}
use Rattle.run_plans.specs.Replays.{ReplaysText, followed, replay_line}
use Rattle.run_frame.specs.Runs.{Prints, World}
use Rattle.run_plans.specs.Sheets.{instructions_line}
use Rattle.run_frame.specs.Texts.{Texts, text_or_empty}

-- the plan that PLAN says is lawful, OUT holds the text of a sheet, and the number of its instructions is printed
pub record StoresSheet (line : Line) (held : Contents) (old new : World) : Type 0 where
  pub texts : Texts
  pub b : Problem
  pub plan : Forest
  pub sheet : List Instr
  pub reads : ReadBy line held texts b
  pub said : plan_said b (text_or_empty texts role.Plan) ≡ Ok plan
  pub lawful : IsLawful b plan
  pub stored : Stored (stored_as line product.Sheet) (sheet_text sheet) old.shelf.contents new.shelf.contents
  pub prints : Prints (instructions_line sheet) old.paper new.paper
  -- a table that follows the sheet is never stuck, and makes the pieces of the plan that are not cut any further, in cutting order
  pub makes : replayed b sheet ≡ Ok (pieces_of b plan)
  -- `replay` of the stored text tells of these pieces, and the waste that it prints is the loss of the plan
  pub replays : (answer : Answer) → ReplaysText b (sheet_text sheet) answer → answer ≡ followed sheet (pieces_of b plan)
  pub loses : waste_area (pieces_of b plan) ≡ loss_of b plan

-- a table follows the sheet that SHEET says to its end; how many pieces leave it, how many cuts it makes and what is waste is printed, and the
-- pieces make up the plates that were loaded
pub record FollowsSheet (line : Line) (held : Contents) (old new : World) : Type 0 where
  pub texts : Texts
  pub b : Problem
  pub sheet : List Instr
  pub made : List Made
  pub reads : ReadBy line held texts b
  pub said : IsText (text_or_empty texts role.Sheet) sheet
  pub makes : replayed b sheet ≡ Ok made
  pub whole : MakesUp b made
  pub unchanged : SameContents old.shelf.contents new.shelf.contents
  pub prints : Prints (replay_line sheet made) old.paper new.paper
