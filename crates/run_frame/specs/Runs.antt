-- What a run leaves, by how it ended and by what is a right answer to a line and to what the files hold.
use Rattle.std.specs.Prelude.{◌≡◌, ◌⊎◌, ◌++◌, ◌≤◌, ℕ, List, length, take, fold, slice_get, if◌then◌else◌, codes, Option, Some, None}
use Rattle.std.specs.Str.{bytes_eq}
use Rattle.glass_base.specs.declared.role.Role.{Role}
use Rattle.glass_io.specs.Told.{Appended, AppendedPrefix, Contents, Counted, HoldsPrefix, Paper, ReadFailed, SameBytes, SameContents, SameFaults, Shelf, WhereTold, WriteFailed}
use Rattle.run_frame.specs.Answers.{Answer, Store}
use Rattle.command_line.specs.Grammar.{LineOf, files_of}
use Rattle.command_line.specs.Words.{role_word}
use Rattle.command_line.specs.Manual.{answer_of}
use Rattle.command_line.specs.declared.questions.Program.{Program}
use Rattle.command_line.specs.declared.questions.Question.{Question}
use Rattle.run_frame.specs.Texts.{Reaches}
use Rattle.run_frame.specs.declared.status.Status.{Status}
use Rattle.run_frame.specs.declared.status.Status.TheVariants as status

-- all that is told before and after a run
pub record World : Type 0 where
  pub shelf : Shelf
  pub paper : Paper

abbrev pub world : Shelf → Paper → World
world shelf paper = record { shelf = shelf; paper = paper }

-- what is held once a file is stored
abbrev pub with_store : Contents → Store → Contents
with_store contents store name = if bytes_eq store.name name then Some store.bytes else contents name

-- what is held once these files are stored, one after another
abbrev pub with_stores : Contents → List Store → Contents
with_stores contents stores = fold with_store contents stores

-- exactly these files were stored
abbrev pub Stands : List Store → Option Contents → Option Contents → Type 0
Stands stores = WhereTold (λ a b. (name : List ℕ) → b name ≡ with_stores a stores name)

-- so many of these files were stored, and of the next one a front at the most
pub record IsCutShort (stores : List Store) (a b : Contents) : Type 0 where
  pub whole : ℕ
  pub next : Store
  pub there : slice_get stores whole ≡ Some next
  pub front : HoldsPrefix next.name next.bytes (with_stores a (take whole stores)) b

abbrev pub CutShort : List Store → Option Contents → Option Contents → Type 0
CutShort stores = WhereTold (IsCutShort stores)

-- the first of these files were stored, up to one of them or all
abbrev pub StandsInPart : List Store → Option Contents → Option Contents → Type 0
StandsInPart stores = WhereTold (λ a b. (n : ℕ) × (n ≤ length stores) × ((name : List ℕ) → b name ≡ with_stores a (take n stores) name))

-- nothing was stored, and no fault counted
pub record IsUntouched (old new : Shelf) : Type 0 where
  pub contents : SameContents old.contents new.contents
  pub faults : SameFaults old new

-- these lines were printed, by one write
pub record Prints (lines : List ℕ) (old new : Paper) : Type 0 where
  pub printed : Appended lines old.printed new.printed
  pub once : Counted old.writes new.writes
  pub sound : new.faults ≡ old.faults

-- one write failed, which printed a front of these lines
pub record PrintsFront (lines : List ℕ) (old new : Paper) : Type 0 where
  pub printed : AppendedPrefix lines old.printed new.printed
  pub once : Counted old.writes new.writes
  pub failed : Counted old.faults new.faults

-- one write was asked for, which found no memory; nothing was printed
pub record PrintsInVain (old new : Paper) : Type 0 where
  pub printed : SameBytes old.printed new.printed
  pub once : Counted old.writes new.writes
  pub sound : new.faults ≡ old.faults

-- nothing was printed: no write was asked for, or one that found no memory
abbrev pub IsUnprinted : Paper → Paper → Type 0
IsUnprinted old new = (new ≡ old) ⊎ PrintsInVain old new

abbrev pub usage_line : List ℕ
usage_line = codes "usage\n"

abbrev pub read_fault_line : Role → List ℕ
read_fault_line of = codes "read fault " ++ role_word of ++ codes "\n"

-- a run that only prints these lines: it has this status where they are printed
abbrev pub PrintRun : List ℕ → Status → World → World → Status → Type 0
PrintRun lines wanted old new result =
    IsUntouched old.shelf new.shelf
    × (((result ≡ wanted) × Prints lines old.paper new.paper)
    ⊎ ((result ≡ status.WriteFault) × PrintsFront lines old.paper new.paper)
    ⊎ ((result ≡ status.Memory) × IsUnprinted old.paper new.paper))

-- a run of words that are no command line: a question on the program is answered, other words are told to be wrong
abbrev pub OtherRun : Program → Option Question → World → World → Status → Type 0
OtherRun of (Some question) = PrintRun (answer_of of question) status.Done
OtherRun of None = PrintRun usage_line status.Usage

-- which answers of a line to what the files hold are right; a program tells its commands apart by V
abbrev pub Answering : Type 0 → Type 1
Answering V = Contents → LineOf V → Answer → Type 0

-- a right answer to what the files hold, where that is told
abbrev pub AnswersTold : {V : Type 0} → Answering V → Option Contents → LineOf V → Answer → Type 0
AnswersTold Answers None line answer = Unit {0}
AnswersTold Answers (Some contents) line answer = Answers contents line answer

-- a file of this role is fetched, and all files before it were whole
abbrev pub ReachesTold : {V : Type 0} → Option Contents → Role → LineOf V → Type 0
ReachesTold None of line = Unit {0}
ReachesTold (Some contents) of line = Reaches contents of (files_of line)

-- a run that did what its answer says: all is stored, the lines are printed, and no fault was counted
pub record Completes {V : Type 0} (Answers : Answering V) (line : LineOf V) (old new : World) (result : Status) : Type 0 where
  pub answer : Answer
  pub answers : AnswersTold Answers old.shelf.contents line answer
  pub status_is : result ≡ answer.status
  pub stored : Stands answer.stores old.shelf.contents new.shelf.contents
  pub faults : SameFaults old.shelf new.shelf
  pub prints : Prints answer.lines old.paper new.paper

-- a read of one of the files failed, which was counted; nothing is stored
pub record FailsToRead {V : Type 0} (line : LineOf V) (old new : World) (of : Role) : Type 0 where
  pub reached : ReachesTold old.shelf.contents of line
  pub contents : SameContents old.shelf.contents new.shelf.contents
  pub counted : ReadFailed of old.shelf new.shelf

-- a store failed, which was counted: the files before it are whole, and nothing is printed or was to be
pub record FailsToStore {V : Type 0} (Answers : Answering V) (line : LineOf V) (old new : World) : Type 0 where
  pub answer : Answer
  pub answers : AnswersTold Answers old.shelf.contents line answer
  pub stored : CutShort answer.stores old.shelf.contents new.shelf.contents
  pub counted : WriteFailed old.shelf new.shelf
  pub silent : new.paper ≡ old.paper

-- the write failed, which was counted: all is stored, and a front of the lines is printed
pub record FailsToPrint {V : Type 0} (Answers : Answering V) (line : LineOf V) (old new : World) : Type 0 where
  pub answer : Answer
  pub answers : AnswersTold Answers old.shelf.contents line answer
  pub stored : Stands answer.stores old.shelf.contents new.shelf.contents
  pub faults : SameFaults old.shelf new.shelf
  pub prints : PrintsFront answer.lines old.paper new.paper

-- memory ran out before there was an answer; or a read failed, which was counted, and the write that was to tell it
-- found no memory
abbrev pub StopsEarly : {V : Type 0} → LineOf V → World → World → Type 0
StopsEarly line old new =
    (IsUntouched old.shelf new.shelf × (new.paper ≡ old.paper)) ⊎ ((of : Role) × FailsToRead line old new of × PrintsInVain old.paper new.paper)

-- memory ran out while the answer was stored or printed: some files are stored, and the others are as before
pub record StopsLate {V : Type 0} (Answers : Answering V) (line : LineOf V) (old new : World) : Type 0 where
  pub answer : Answer
  pub answers : AnswersTold Answers old.shelf.contents line answer
  pub stored : StandsInPart answer.stores old.shelf.contents new.shelf.contents
  pub faults : SameFaults old.shelf new.shelf
  pub unprinted : IsUnprinted old.paper new.paper

-- a run of a command line, by its status; every status that is not named here is that of an answer
abbrev pub LineRun : {V : Type 0} → Answering V → LineOf V → World → World → Status → Type 0
LineRun Answers line old new status.Usage = ⊥
LineRun Answers line old new status.ReadFault = (of : Role) × FailsToRead line old new of × Prints (read_fault_line of) old.paper new.paper
LineRun Answers line old new status.Memory = StopsEarly line old new ⊎ StopsLate Answers line old new
LineRun Answers line old new status.WriteFault =
    FailsToStore Answers line old new ⊎ FailsToPrint Answers line old new ⊎ ((of : Role) × FailsToRead line old new of × PrintsFront (read_fault_line of) old.paper new.paper)
LineRun Answers line old new result = Completes Answers line old new result

-- a run of a program, by its words as a command line, and as a question where they are none
abbrev pub RunsTo : {V : Type 0} → Answering V → Program → Option (LineOf V) → Option Question → World → World → Status → Type 0
RunsTo Answers of (Some line) asked old new result = LineRun Answers line old new result
RunsTo Answers of None asked old new result = OtherRun of asked old new result
