-- What a user may conclude from how a run ended.
use Rattle.std.proofs.Common.{◌≡◌, ◌≤◌, ℕ, List, length, Bool, true, false, refl, sym, ap, subst, ◌∙◌, inl, inr, Option, Some}
use Rattle.std.specs.Prelude.{IfErr, Ok, Err, Result, if◌then◌else◌, nat_le}
use Rattle.std.proofs.lemmas.Bool.{leb-true}
use Rattle.glass_base.specs.Problem.{Problem, IsProblem}
use Rattle.glass_base.specs.declared.role.Role.TheVariants as role
use Rattle.glass_io.specs.Told.{Contents}
use Rattle.cut_model.specs.Tree.{Forest}
use Rattle.plan_csv.specs.PlanTexts.{plan_said}
use Rattle.plan_csv.specs.Solutions.{solution_text}
use Rattle.plan_csv.specs.declared.bad_plan.BadPlan.{BadPlan}
use Rattle.run_frame.specs.Answers.{Answer}
use Rattle.glass_run.specs.Commands.{Answers, AnswersInstance, AnswersTexts, HasInstance, plan_name}
use Rattle.run_plans.specs.Drafts.{Drafts}
use Rattle.run_plans.specs.Instances.{IsInstanceOf}
use Rattle.command_line.specs.Grammar.{Line, files_of}
use Rattle.glass_run.specs.Headlines.{Ended, FindsLawful, FindsNoDraft, FindsUnlawful, ReadBy, SaidBy, StoresLawfulPlan}
use Rattle.run_plans.specs.Judgements.{Judges, JudgesSaid}
use Rattle.run_frame.specs.Runs.{AnswersTold, Completes, Prints, Stands, World}
use Rattle.run_frame.specs.Texts.{AnswersFetched, Texts, text_for, text_or_empty, texts_of}
use Rattle.command_line.specs.declared.kinds.Verb.{Verb}
use Rattle.command_line.specs.declared.kinds.Verb.TheVariants as verb
use Rattle.run_frame.specs.declared.status.Status.{Status}
use Rattle.run_frame.specs.declared.status.Status.TheVariants as status
use Rattle.run_frame.proofs.Statuses.{IsRefused, Refuses, texts_refuse}
use Rattle.run_frame.proofs.Stores.{one_stored, unchanged}
use Rattle.run_plans.proofs.Statuses.{plan_refused}
use Rattle.glass_run.proofs.Statuses.{none_refused}

-- an instance keeps the rules of instances, of whatever command it is
pub rules_of : (of : Verb) (line : Line) (texts : Texts) (b : Problem) → HasInstance of line texts b → IsProblem b
rules_of verb.Draft line texts b h = h.made.rules
rules_of verb.Plan line texts b h = h.made.rules
rules_of verb.Gen line texts b h = h.made.rules
rules_of verb.Judge line texts b h = h.made.rules
rules_of verb.Verify line texts b h = h.made.rules
rules_of verb.Convert line texts b h = h.made.rules
rules_of verb.Resume line texts b h = h.made.rules
rules_of verb.Freeze line texts b h = h.made.rules
rules_of verb.Sheet line texts b h = h.made.rules
rules_of verb.Replay line texts b h = h.made.rules

-- the commands whose files say an instance, the defects among them
abbrev pub ReadsInstance : Verb → Type 0
ReadsInstance verb.Draft = ⊥
ReadsInstance verb.Gen = ⊥
ReadsInstance _ = Unit {0}

instance_read : (of : Verb) (line : Line) (texts : Texts) (b : Problem) → ReadsInstance of → HasInstance of line texts b → IsInstanceOf texts (text_for texts role.Defects) b
instance_read verb.Draft line texts b reads h = absurd reads
instance_read verb.Plan line texts b reads h = h
instance_read verb.Gen line texts b reads h = absurd reads
instance_read verb.Judge line texts b reads h = h
instance_read verb.Verify line texts b reads h = h
instance_read verb.Convert line texts b reads h = h
instance_read verb.Resume line texts b reads h = h
instance_read verb.Freeze line texts b reads h = h
instance_read verb.Sheet line texts b reads h = h
instance_read verb.Replay line texts b reads h = h

pub read_by : (of : Verb) (line : Line) (held : Contents) (texts : Texts) (b : Problem) → ReadsInstance of → line.verb ≡ of → SaidBy line held texts b → ReadBy line held texts b
read_by of line held texts b reads is said = record { texts_are = said.texts_are; instance_is = instance_read of line texts b reads (subst (λ (v : Verb). HasInstance v line texts b) is said.instance_is) }

-- and what the files say is the instance of a line that goes on from a certificate
pub said_by : (line : Line) (held : Contents) (texts : Texts) (b : Problem) → line.verb ≡ verb.Resume → ReadBy line held texts b → SaidBy line held texts b
said_by line held texts b is read = record { texts_are = read.texts_are; instance_is = subst (λ (v : Verb). HasInstance v line texts b) (sym is) read.instance_is }

-- an answer to an instance that the files say
pub record Says (line : Line) (held : Contents) (answer : Answer) : Type 0 where
  pub texts : Texts
  pub b : Problem
  pub reads : SaidBy line held texts b
  pub answers : AnswersInstance line.verb line texts b answer

texts_say : (line : Line) (held : Contents) (texts : Texts) (answer : Answer) → ¬ Refuses answer → texts_of held (files_of line) ≡ Ok texts → AnswersTexts line texts answer → Says line held answer
texts_say line held texts answer accepts is (inl said) = record { texts = texts; b = said.0; reads = record { texts_are = is; instance_is = said.1 }; answers = said.2 }
texts_say line held texts answer accepts is (inr refused) = absurd (accepts (none_refused line.verb texts answer refused))

fetched_say : (line : Line) (held : Contents) (answer : Answer) (fetched : Result Texts Answer) → ¬ Refuses answer → texts_of held (files_of line) ≡ fetched → IfErr fetched Refuses → AnswersFetched (AnswersTexts line) fetched answer →
    Says line held answer
fetched_say line held answer (Ok texts) accepts is refuses h = texts_say line held texts answer accepts is h
fetched_say line held answer (Err refusal) accepts is refuses h = absurd (accepts (rw h refuses))

-- an answer that refuses no file and no text is one to an instance
answer_says : (line : Line) (held : Contents) (answer : Answer) → ¬ Refuses answer → Answers held line answer → Says line held answer
answer_says line held answer accepts h = fetched_say line held answer (texts_of held (files_of line)) accepts refl (texts_refuse held (files_of line)) h

-- so is that of a run that did what its answer says
pub completed_says : (line : Line) (held : Contents) (old new : World) (result : Status) → old.shelf.contents ≡ Some held → ¬ IsRefused result → (c : Completes Answers line old new result) → Says line held c.answer
completed_says line held old new result told accepts c =
    answer_says line held c.answer (λ h. accepts (subst IsRefused (sym c.status_is) h)) (subst (λ (o : Option Contents). AnswersTold Answers o line c.answer) told c.answers)

-- an answer that is one of two is the first, where the other has no such status
one_of : (P : Status → Type 0) (read : Bool) (good other answer : Answer) → P answer.status → ¬ P other.status → answer ≡ (if read then good else other) → (read ≡ true) × (answer ≡ good)
one_of P true good other answer has never is = (refl, is)
one_of P false good other answer has never is = absurd (never (subst (λ (a : Answer). P a.status) is has))

-- so where the length of a text decides, the text is no longer than that
pub if_short : (P : Status → Type 0) (text : List ℕ) (most : ℕ) (good other answer : Answer) → P answer.status → ¬ P other.status → answer ≡ (if nat_le (length text) most then good else other) →
    (length text ≤ most) × (answer ≡ good)
if_short P text most good other answer has never is =
    let one = one_of P (nat_le (length text) most) good other answer has never is in (leb-true (length text) most one.0, one.1)

-- an answer that is one of two has no status that neither has
pub neither : (P : Status → Type 0) (read : Bool) (good other : Answer) → ¬ P good.status → ¬ P other.status → P (if read then good else other).status → ⊥
neither P true good other well bad h = well h
neither P false good other well bad h = bad h

-- the answer of `draft` whose status is `Done` stores a lawful plan
drafted_lawful : (line : Line) (held : Contents) (old new : World) (answer : Answer) → line.verb ≡ verb.Draft → status.Done ≡ answer.status → Says line held answer →
    Stands answer.stores old.shelf.contents new.shelf.contents → Prints answer.lines old.paper new.paper → StoresLawfulPlan line held old new
drafted_lawful line held old new answer of is s stored prints =
    let drafts : Drafts s.b (plan_name line) answer = subst (λ (v : Verb). AnswersInstance v line s.texts s.b answer) of s.answers in
    elim drafts [
      | inl d ↦ record {
        texts = s.texts;
        b = s.b;
        plan = d.0;
        reads = s.reads;
        lawful = d.2;
        stored = one_stored (record { name = plan_name line; bytes = solution_text s.b d.0 }) old.shelf.contents new.shelf.contents (subst (λ (a : Answer). Stands a.stores old.shelf.contents new.shelf.contents) d.3 stored);
        prints = subst (λ (a : Answer). Prints a.lines old.paper new.paper) d.3 prints;
      }
      | inr none ↦ let wrong = is ∙ ap (λ (a : Answer). a.status) none.2 in cc wrong
    ]

-- the answer of `draft` whose status is `NoDraft` names the first item without a place
drafted_none : (line : Line) (held : Contents) (old new : World) (answer : Answer) → line.verb ≡ verb.Draft → status.NoDraft ≡ answer.status → Says line held answer →
    Stands answer.stores old.shelf.contents new.shelf.contents → Prints answer.lines old.paper new.paper → FindsNoDraft line held old new
drafted_none line held old new answer of is s stored prints =
    let drafts : Drafts s.b (plan_name line) answer = subst (λ (v : Verb). AnswersInstance v line s.texts s.b answer) of s.answers in
    elim drafts [
      | inl d ↦ let wrong = is ∙ ap (λ (a : Answer). a.status) d.3 in cc wrong
      | inr none ↦ record {
        texts = s.texts;
        b = s.b;
        number = none.0;
        reads = s.reads;
        none = none.1;
        unchanged = unchanged old.shelf.contents new.shelf.contents (subst (λ (a : Answer). Stands a.stores old.shelf.contents new.shelf.contents) none.2 stored);
        prints = subst (λ (a : Answer). Prints a.lines old.paper new.paper) none.2 prints;
      }
    ]

-- the answer of `judge` that refuses nothing is one to the plan that was said
said_judged : (b : Problem) (said : Result Forest BadPlan) (answer : Answer) → ¬ Refuses answer → JudgesSaid b said answer → (plan : Forest) × (said ≡ Ok plan) × Judges b plan answer
said_judged b (Ok plan) answer accepts h = (plan, refl, h)
said_judged b (Err reason) answer accepts h = absurd (accepts (plan_refused reason answer h))

-- an instance and a plan that the files say, and the answer to it
record SaysPlan (line : Line) (held : Contents) (answer : Answer) : Type 0 where
  pub texts : Texts
  pub b : Problem
  plan : Forest
  pub reads : ReadBy line held texts b
  said : plan_said b (text_or_empty texts role.Plan) ≡ Ok plan
  judges : Judges b plan answer

judge_says : (line : Line) (held : Contents) (answer : Answer) → line.verb ≡ verb.Judge → ¬ Refuses answer → Says line held answer → SaysPlan line held answer
judge_says line held answer of accepts s =
    let judged = said_judged s.b (plan_said s.b (text_or_empty s.texts role.Plan)) answer accepts (subst (λ (v : Verb). AnswersInstance v line s.texts s.b answer) of s.answers) in
    record { texts = s.texts; b = s.b; plan = judged.0; reads = read_by verb.Judge line held s.texts s.b tt of s.reads; said = judged.1; judges = judged.2 }

-- the answer to a plan whose status is `Done` says that it is lawful
judged_lawful : (line : Line) (held : Contents) (old new : World) (answer : Answer) → status.Done ≡ answer.status → SaysPlan line held answer →
    Stands answer.stores old.shelf.contents new.shelf.contents → Prints answer.lines old.paper new.paper → FindsLawful line held old new
judged_lawful line held old new answer is s stored prints =
    elim s.judges [
      | inl j ↦ record {
        texts = s.texts;
        b = s.b;
        plan = s.plan;
        reads = s.reads;
        said = s.said;
        lawful = j.0;
        unchanged = unchanged old.shelf.contents new.shelf.contents (subst (λ (a : Answer). Stands a.stores old.shelf.contents new.shelf.contents) j.1 stored);
        prints = subst (λ (a : Answer). Prints a.lines old.paper new.paper) j.1 prints;
      }
      | inr broken ↦ let wrong = is ∙ ap (λ (a : Answer). a.status) broken.3 in cc wrong
    ]

-- the answer to a plan whose status is `Unlawful` tells its first breach
judged_unlawful : (line : Line) (held : Contents) (old new : World) (answer : Answer) → status.Unlawful ≡ answer.status → SaysPlan line held answer →
    Stands answer.stores old.shelf.contents new.shelf.contents → Prints answer.lines old.paper new.paper → FindsUnlawful line held old new
judged_unlawful line held old new answer is s stored prints =
    elim s.judges [
      | inl lawful ↦ let wrong = is ∙ ap (λ (a : Answer). a.status) lawful.1 in cc wrong
      | inr j ↦ record {
        texts = s.texts;
        b = s.b;
        plan = s.plan;
        broken = j.0;
        reads = s.reads;
        said = s.said;
        unlawful = j.1;
        first = j.2;
        unchanged = unchanged old.shelf.contents new.shelf.contents (subst (λ (a : Answer). Stands a.stores old.shelf.contents new.shelf.contents) j.3 stored);
        prints = subst (λ (a : Answer). Prints a.lines old.paper new.paper) j.3 prints;
      }
    ]

pub done_draft : (words : List (List ℕ)) (line : Line) (held : Contents) (old new : World) → Ended words verb.Draft line held old new status.Done → StoresLawfulPlan line held old new
done_draft words line held old new e =
    let c : Completes Answers line old new status.Done = e.runs in
    drafted_lawful line held old new c.answer e.verb_is c.status_is (completed_says line held old new status.Done e.told (λ h. h) c)
    c.stored c.prints

pub done_judgement : (words : List (List ℕ)) (line : Line) (held : Contents) (old new : World) → Ended words verb.Judge line held old new status.Done → FindsLawful line held old new
done_judgement words line held old new e =
    let c : Completes Answers line old new status.Done = e.runs in
    judged_lawful line held old new c.answer c.status_is
    (judge_says line held c.answer e.verb_is (λ h. subst IsRefused (sym c.status_is) h) (completed_says line held old new status.Done e.told (λ h. h) c))
    c.stored c.prints

pub unlawful_judgement : (words : List (List ℕ)) (line : Line) (held : Contents) (old new : World) → Ended words verb.Judge line held old new status.Unlawful → FindsUnlawful line held old new
unlawful_judgement words line held old new e =
    let c : Completes Answers line old new status.Unlawful = e.runs in
    judged_unlawful line held old new c.answer c.status_is
    (judge_says line held c.answer e.verb_is (λ h. subst IsRefused (sym c.status_is) h) (completed_says line held old new status.Unlawful e.told (λ h. h) c))
    c.stored c.prints

pub no_draft : (words : List (List ℕ)) (line : Line) (held : Contents) (old new : World) → Ended words verb.Draft line held old new status.NoDraft → FindsNoDraft line held old new
no_draft words line held old new e =
    let c : Completes Answers line old new status.NoDraft = e.runs in
    drafted_none line held old new c.answer e.verb_is c.status_is (completed_says line held old new status.NoDraft e.told (λ h. h) c) c.stored c.prints
