-- The last steps of a run.
use Rattle.std.specs.Prelude.{◌≡◌, ◌⊎◌, ℕ, List}
use Rattle.glass_io.specs.Told.{Paper, SameFaults, WriteFailed}
use Rattle.run_frame.specs.Answers.{Answer}
use Rattle.run_frame.specs.Runs.{CutShort, Prints, PrintsFront, PrintsInVain, Stands, StandsInPart, World}
use Rattle.run_frame.specs.declared.status.Status.{Status}
use Rattle.run_frame.specs.declared.status.Status.TheVariants as status

-- these lines were printed and the run has the wanted status, or they were not
abbrev pub Ends : List ℕ → Status → Paper → Paper → Status → Type 0
Ends lines wanted old new result =
    ((result ≡ wanted) × Prints lines old new)
    ⊎ ((result ≡ status.WriteFault) × PrintsFront lines old new)
    ⊎ ((result ≡ status.Memory) × PrintsInVain old new)

-- all that the answer stores was stored
pub record HasStored (answer : Answer) (old new : World) : Type 0 where
  pub stored : Stands answer.stores old.shelf.contents new.shelf.contents
  pub faults : SameFaults old.shelf new.shelf

-- a store failed
pub record HasCut (answer : Answer) (old new : World) : Type 0 where
  pub stored : CutShort answer.stores old.shelf.contents new.shelf.contents
  pub counted : WriteFailed old.shelf new.shelf
  pub silent : new.paper ≡ old.paper

-- a store found no memory
pub record HasPart (answer : Answer) (old new : World) : Type 0 where
  pub stored : StandsInPart answer.stores old.shelf.contents new.shelf.contents
  pub faults : SameFaults old.shelf new.shelf
  pub silent : new.paper ≡ old.paper

-- an answer was stored and printed, as far as nothing failed
abbrev pub Delivers : Answer → World → World → Status → Type 0
Delivers answer old new result =
    (HasStored answer old new × Ends answer.lines answer.status old.paper new.paper result)
    ⊎ ((result ≡ status.WriteFault) × HasCut answer old new)
    ⊎ ((result ≡ status.Memory) × HasPart answer old new)
