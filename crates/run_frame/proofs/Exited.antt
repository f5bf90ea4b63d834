-- The code that a program ends with is that of some run.
use Rattle.std.proofs.Common.{ℕ, List, [], Option}
use Rattle.std.specs.Prelude.{Result, Ok, Err, IfOk, IfErr}
use Rattle.command_line.specs.Grammar.{LineOf}
use Rattle.command_line.specs.Manual.{question_of}
use Rattle.command_line.specs.declared.questions.Program.{Program}
use Rattle.run_frame.specs.Exits.{Exits}
use Rattle.run_frame.specs.Runs.{Answering, World}

-- where the words were taken it is that of their run, and else that of a run without words
pub exited : {V T E : Type 0} (Answers : Answering V) (of : Program) (line : List (List ℕ) → Option (LineOf V)) (words : Result T E) (read : T → List (List ℕ)) (old new : World) (code : ℕ)
    → IfOk words (λ given. Exits Answers of (line (read given)) (question_of (read given)) old new code) → IfErr words (λ _. Exits Answers of (line []) (question_of []) old new code)
    → (run : List (List ℕ)) × (a : World) × (b : World) × Exits Answers of (line run) (question_of run) a b code
exited Answers of line (Ok given) read old new code taken wrong = (read given, old, new, taken)
exited Answers of line (Err e) read old new code taken wrong = ([], old, new, wrong)
