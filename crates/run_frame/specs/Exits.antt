-- The code that a program ends with.
use Rattle.std.specs.Prelude.{◌≡◌, ℕ, Option}
use Rattle.run_frame.specs.Codes.{code_of}
use Rattle.command_line.specs.Grammar.{LineOf}
use Rattle.command_line.specs.declared.questions.Program.{Program}
use Rattle.command_line.specs.declared.questions.Question.{Question}
use Rattle.run_frame.specs.Runs.{Answering, RunsTo, World}
use Rattle.run_frame.specs.declared.status.Status.{Status}

-- a run ended, and the code is that of its status
pub record Exits {V : Type 0} (Answers : Answering V) (of : Program) (line : Option (LineOf V)) (asked : Option Question) (old new : World) (code : ℕ) : Type 0 where
  pub status : Status
  pub runs : RunsTo Answers of line asked old new status
  pub code_is : code ≡ code_of status
