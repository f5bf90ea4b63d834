-- What a board keeps.
use Rattle.std.specs.Prelude.{List}
use Rattle.glass_base.specs.Problem.{Problem}
use Rattle.best_board.specs.Improvements.{Found}

-- an instance, and plans in the order in which they were found
pub record Kept : Type 0 where
  pub instance : Problem
  pub found : List Found

abbrev pub kept : Problem → List Found → Kept
kept instance found = record { instance = instance; found = found }
