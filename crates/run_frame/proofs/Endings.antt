-- How a run ends, from what its last steps left.
use Rattle.std.proofs.Common.{ℕ, List, refl, sym, subst, inl, inr, Option, Some, None, IfSome}
use Rattle.glass_base.specs.declared.role.Role.{Role}
use Rattle.glass_io.specs.Told.{Contents, Paper, ReadFailed, SameContents, SameFaults, Shelf}
use Rattle.run_frame.specs.Answers.{Answer}
use Rattle.run_frame.specs.Codes.{IsAnswered}
use Rattle.run_frame.specs.Deliveries.{Delivers, Ends, HasStored}
use Rattle.command_line.specs.Grammar.{LineOf, files_of}
use Rattle.run_frame.specs.Runs.{Answering, AnswersTold, Completes, CutShort, FailsToRead, IsUntouched, LineRun, ReachesTold, Stands, StandsInPart, PrintRun, World, read_fault_line, world}
use Rattle.run_frame.specs.Texts.{Reaches}
use Rattle.run_frame.specs.declared.status.Status.{Status}
use Rattle.run_frame.specs.declared.status.Status.TheVariants as status
use Rattle.run_frame.proofs.Stores.{all_in_part, failed_then, same_faults_then}

untouched : (shelf : Shelf) → IsUntouched shelf shelf
untouched shelf = record { contents = refl; faults = record { reads = λ of. refl; writes = refl } }

-- nothing was done but to print
pub print_ends : (lines : List ℕ) (wanted : Status) (shelf : Shelf) (p q : Paper) (result : Status) → Ends lines wanted p q result → PrintRun lines wanted (world shelf p) (world shelf q) result
print_ends lines wanted shelf p q result h = (
  untouched shelf,
  elim h [
    | inl told ↦ inl told
    | inr later ↦ elim later [
      | inl front ↦ inr (inl front)
      | inr none ↦ inr (inr (none.0, inr none.1))
    ]
  ],
)

-- there was no memory for what was to be printed
pub unprinted_ends : (lines : List ℕ) (wanted : Status) (shelf : Shelf) (p : Paper) → PrintRun lines wanted (world shelf p) (world shelf p) status.Memory
unprinted_ends lines wanted shelf p = (untouched shelf, inr (inr (refl, inl refl)))

-- memory ran out before there was a reply
pub stops_early : {V : Type 0} (Answers : Answering V) (line : LineOf V) (a b : Shelf) (p : Paper) → SameContents a.contents b.contents → SameFaults a b → LineRun Answers line (world a p) (world b p) status.Memory
stops_early Answers line a b p same faults = inl (inl (record { contents = same; faults = faults }, refl))

-- a read failed
pub fault_ends : {V : Type 0} (Answers : Answering V) (line : LineOf V) (a b : Shelf) (p q : Paper) (of : Role) (result : Status) → FailsToRead line (world a p) (world b q) of → Ends (read_fault_line of) status.ReadFault p q result →
    LineRun Answers line (world a p) (world b q) result
fault_ends Answers line a b p q of result fails h =
    let P : Status → Type 0 = λ r. LineRun Answers line (world a p) (world b q) r in
    elim h [
      | inl told ↦ subst P (sym told.0) (of, fails, told.1)
      | inr later ↦ elim later [
        | inl front ↦ subst P (sym front.0) (inr (inr (of, fails, front.1)))
        | inr none ↦ subst P (sym none.0) (inl (inr (of, fails, none.1)))
      ]
    ]

reaches_told : {V : Type 0} (told : Option Contents) (of : Role) (line : LineOf V) → IfSome told (λ contents. Reaches contents of (files_of line)) → ReachesTold told of line
reaches_told None of line h = tt
reaches_told (Some contents) of line h = h

pub fails_to_read : {V : Type 0} (line : LineOf V) (a b : Shelf) (p q : Paper) (of : Role) → IfSome a.contents (λ contents. Reaches contents of (files_of line)) → SameContents a.contents b.contents → ReadFailed of a b →
    FailsToRead line (world a p) (world b q) of
fails_to_read line a b p q of reached same failed = record { reached = reaches_told a.contents of line reached; contents = same; counted = failed }

pub answers_told : {V : Type 0} (Answers : Answering V) (told : Option Contents) (line : LineOf V) (answer : Answer) → IfSome told (λ contents. Answers contents line answer) → AnswersTold Answers told line answer
answers_told Answers None line answer h = tt
answers_told Answers (Some contents) line answer h = h

-- a run that completes has a status that an answer has
completed : {V : Type 0} (Answers : Answering V) (line : LineOf V) (old new : World) (result : Status) → IsAnswered result → Completes Answers line old new result → LineRun Answers line old new result
completed Answers line old new status.Optimal is h = h
completed Answers line old new status.Stopped is h = h
completed Answers line old new status.Infeasible is h = h
completed Answers line old new status.Usage is h = cc is
completed Answers line old new status.ReadFault is h = cc is
completed Answers line old new status.Absent is h = h
completed Answers line old new status.TooLong is h = h
completed Answers line old new status.BadInput is h = h
completed Answers line old new status.Memory is h = cc is
completed Answers line old new status.Unlawful is h = h
completed Answers line old new status.Refused is h = h
completed Answers line old new status.NoDraft is h = h
completed Answers line old new status.WriteFault is h = cc is
completed Answers line old new status.Done is h = h

-- an answer was stored and printed, as far as nothing failed
pub delivery_ends : {V : Type 0} (Answers : Answering V) (line : LineOf V) (a b c : Shelf) (p q : Paper) (answer : Answer) (result : Status) → SameContents a.contents b.contents → SameFaults a b → AnswersTold Answers a.contents line answer →
    IsAnswered answer.status → Delivers answer (world b p) (world c q) result → LineRun Answers line (world a p) (world c q) result
delivery_ends Answers line a b c p q answer result same faults answers is h =
    let P : Status → Type 0 = λ r. LineRun Answers line (world a p) (world c q) r in
    let all : HasStored answer (world b p) (world c q) → Stands answer.stores a.contents c.contents = λ s. subst (λ (o : Option Contents). Stands answer.stores o c.contents) same s.stored in
    let sound : SameFaults b c → SameFaults a c = λ more. same_faults_then a b c faults more in
    elim h [
      | inl done ↦ elim done.1 [
        | inl told ↦ subst P (sym told.0) (completed Answers line (world a p) (world c q) answer.status is (record {
          answer = answer;
          answers = answers;
          status_is = refl;
          stored = all done.0;
          faults = sound done.0.faults;
          prints = told.1;
        }))
        | inr later ↦ elim later [
          | inl front ↦ subst P (sym front.0) (inr (inl (record { answer = answer; answers = answers; stored = all done.0; faults = sound done.0.faults; prints = front.1 })))
          | inr none ↦ subst P (sym none.0) (inr (record {
            answer = answer;
            answers = answers;
            stored = all_in_part answer.stores a.contents c.contents (all done.0);
            faults = sound done.0.faults;
            unprinted = inr none.1;
          }))
        ]
      ]
      | inr later ↦ elim later [
        | inl cut ↦ subst P (sym cut.0) (inl (record {
          answer = answer;
          answers = answers;
          stored = subst (λ (o : Option Contents). CutShort answer.stores o c.contents) same cut.1.stored;
          counted = failed_then a b c faults cut.1.counted;
          silent = cut.1.silent;
        }))
        | inr part ↦ subst P (sym part.0) (inr (record {
          answer = answer;
          answers = answers;
          stored = subst (λ (o : Option Contents). StandsInPart answer.stores o c.contents) same part.1.stored;
          faults = sound part.1.faults;
          unprinted = inl part.1.silent;
        }))
      ]
    ]
