-- What a user may conclude from a plan or a certificate that is refused.
use Rattle.std.proofs.Common.{◌≡◌, ℕ, zero, suc, List, [], length, Bool, true, false, sym, ap, subst, ◌∙◌, inl, inr, Option, Some, None}
use Rattle.std.specs.Prelude.{◌==◌, if◌then◌else◌, is_some, nat_le, Ok, unwrap_or}
use Rattle.glass_base.specs.Problem.{Problem}
use Rattle.glass_base.specs.declared.role.Role.TheVariants as role
use Rattle.glass_io.specs.Told.{Contents}
use Rattle.cut_model.specs.Tree.{Forest}
use Rattle.cut_model.specs.declared.broken.Broken.{Broken}
use Rattle.cut_model.specs.Lawful.{IsLawful}
use Rattle.cert_log.specs.declared.certificate.Certificate.{Certificate}
use Rattle.cert_log.specs.Texts.{cert_text}
use Rattle.plan_csv.specs.PlanTexts.{plan_said}
use Rattle.run_frame.specs.Answers.{Answer}
use Rattle.run_checks.specs.Checks.{Converts, NoLawfulPlan, NotAccepted, converted, too_long_to_store}
use Rattle.glass_run.specs.FreezeHeadlines.{FindsWrongBehind, FindsWrongFrom, cut_already}
use Rattle.run_checks.specs.FrozenChecks.{NotAcceptedBehind, VerifiesFrom}
use Rattle.run_checks.specs.Checks.NoLawfulPlan.{bad_text, unlawful_plan}
use Rattle.run_checks.specs.Checks.NotAccepted.{bad_cert, bad_plan, bad_tree, broken_plan}
use Rattle.glass_run.specs.Commands.{Answers, AnswersInstance, cert_name, plan_name}
use Rattle.command_line.specs.Grammar.{Line, count_in, flag_in}
use Rattle.command_line.specs.declared.kinds.Count.TheVariants as count
use Rattle.command_line.specs.declared.kinds.Flag.TheVariants as flag
use Rattle.run_plans.specs.Judgements.{IsFirstBroken, unlawful as unlawful_of}
use Rattle.glass_run.specs.Headlines.{Ended, FindsUnlawful, FindsWrong, IsCheck, IsJudging, ReadBy}
use Rattle.run_search.specs.Plans.{PlansFrom, PlansWithin, planned}
use Rattle.run_search.specs.Resumptions.{GoesOn, GoesOnWithin, Resumes, too_long_to_read}
use Rattle.run_frame.specs.Runs.{Completes, Prints, Stands, World}
use Rattle.run_checks.specs.Said.{IsPlanIn}
use Rattle.run_frame.specs.Texts.{Texts, limit_of, text_for, text_or_empty}
use Rattle.command_line.specs.declared.kinds.Verb.{Verb}
use Rattle.command_line.specs.declared.kinds.Verb.TheVariants as verb
use Rattle.run_frame.specs.declared.status.Status.{Status}
use Rattle.run_frame.specs.declared.status.Status.TheVariants as status
use Rattle.glass_run.proofs.FreezeHeadline.{unlawful_freeze}
use Rattle.run_frame.proofs.Stores.{unchanged}
use Rattle.glass_run.proofs.Headlines.{ReadsInstance, Says, completed_says, neither, read_by, unlawful_judgement}
use Rattle.glass_run.proofs.SheetHeadline.{unlawful_sheet}
use Rattle.run_frame.proofs.Statuses.{IsRefused}
use Rattle.run_plans.proofs.Statuses.{plan_refused}
use Rattle.run_checks.proofs.Statuses.{cert_refused}

-- an answer whose status is `Refused` tells the first check that a certificate fails
wrong_tree : (line : Line) (held : Contents) (old new : World) (answer : Answer) (texts : Texts) (b : Problem) → ReadBy line held texts b → status.Refused ≡ answer.status →
    NotAccepted b (text_for texts role.Plan) (text_or_empty texts role.Cert) answer →
    Stands answer.stores old.shelf.contents new.shelf.contents → Prints answer.lines old.paper new.paper → FindsWrong line held old new
wrong_tree line held old new answer texts b reads is (bad_plan reason refused h) stored prints = absurd (subst IsRefused (sym is) (plan_refused reason answer h))
wrong_tree line held old new answer texts b reads is (bad_cert plan reason said reading h) stored prints = absurd (subst IsRefused (sym is) (cert_refused reason answer h))
wrong_tree line held old new answer texts b reads is (broken_plan plan c broken said unlawful first e) stored prints = let wrong = is ∙ ap (λ (a : Answer). a.status) e in cc wrong
wrong_tree line held old new answer texts b reads is (bad_tree plan c at why said lawful wrong first e) stored prints = record {
  texts = texts;
  b = b;
  plan = plan;
  certificate = c;
  at = at;
  why = why;
  reads = reads;
  said = said;
  lawful = lawful;
  wrong = wrong;
  first = first;
  unchanged = unchanged old.shelf.contents new.shelf.contents (subst (λ (a : Answer). Stands a.stores old.shelf.contents new.shelf.contents) e stored);
  prints = subst (λ (a : Answer). Prints a.lines old.paper new.paper) e prints;
}

-- the status of an answer to a certificate that is not right
abbrev SaysRefused : Status → Type 0
SaysRefused status.Refused = Unit {0}
SaysRefused _ = ⊥

-- so where some plates are cut already
wrong_tree_behind : (k : ℕ) (line : Line) (held : Contents) (old new : World) (answer : Answer) (texts : Texts) (b : Problem) → ReadBy line held texts b → status.Refused ≡ answer.status →
    NotAcceptedBehind b k (text_or_empty texts role.Plan) (text_or_empty texts role.Cert) answer →
    Stands answer.stores old.shelf.contents new.shelf.contents → Prints answer.lines old.paper new.paper → FindsWrongBehind k line held old new
wrong_tree_behind k line held old new answer texts b reads is (NotAcceptedBehind.bad_plan reason refused h) stored prints = absurd (subst IsRefused (sym is) (plan_refused reason answer h))
wrong_tree_behind k line held old new answer texts b reads is (NotAcceptedBehind.bad_cert plan reason said reading h) stored prints = absurd (subst IsRefused (sym is) (cert_refused reason answer h))
wrong_tree_behind k line held old new answer texts b reads is (NotAcceptedBehind.broken_plan plan c broken said unlawful first e) stored prints = absurd (subst SaysRefused (is ∙ ap (λ (a : Answer). a.status) e) tt)
wrong_tree_behind k line held old new answer texts b reads is (NotAcceptedBehind.none_left plan c said lawful few e) stored prints = absurd (subst SaysRefused (is ∙ ap (λ (a : Answer). a.status) e) tt)
wrong_tree_behind k line held old new answer texts b reads is (NotAcceptedBehind.bad_tree plan rest c at why said lawful fewer rest_is wrong first e) stored prints = record {
  texts = texts;
  b = b;
  plan = plan;
  rest = rest;
  certificate = c;
  at = at;
  why = why;
  reads = reads;
  said = said;
  lawful = lawful;
  fewer = fewer;
  rest_is = rest_is;
  wrong = wrong;
  first = first;
  unchanged = unchanged old.shelf.contents new.shelf.contents (subst (λ (a : Answer). Stands a.stores old.shelf.contents new.shelf.contents) e stored);
  prints = subst (λ (a : Answer). Prints a.lines old.paper new.paper) e prints;
}

-- what is not accepted, by how many plates are cut already
abbrev NotAcceptedFrom : ℕ → Problem → Texts → Answer → Type 0
NotAcceptedFrom zero b texts answer = NotAccepted b (text_for texts role.Plan) (text_or_empty texts role.Cert) answer
NotAcceptedFrom (suc k) b texts answer = NotAcceptedBehind b (suc k) (text_or_empty texts role.Plan) (text_or_empty texts role.Cert) answer

wrong_tree_from : (k : ℕ) (line : Line) (held : Contents) (old new : World) (answer : Answer) (texts : Texts) (b : Problem) → ReadBy line held texts b → status.Refused ≡ answer.status → NotAcceptedFrom k b texts answer →
    Stands answer.stores old.shelf.contents new.shelf.contents → Prints answer.lines old.paper new.paper → FindsWrongFrom k line held old new
wrong_tree_from zero line held old new answer texts b reads is other stored prints = wrong_tree line held old new answer texts b reads is other stored prints
wrong_tree_from (suc k) line held old new answer texts b reads is other stored prints = wrong_tree_behind (suc k) line held old new answer texts b reads is other stored prints

-- the text of a plan that is there is the one that is read
said_plan : (b : Problem) (text : Option (List ℕ)) (plan : Forest) → IsPlanIn b text (Some plan) → plan_said b (unwrap_or text []) ≡ Ok plan
said_plan b (Some text) plan h = h
said_plan b None plan h = absurd h

-- what an answer is whose status is `Unlawful`
record IsBroken (b : Problem) (plan_text : Option (List ℕ)) (answer : Answer) : Type 0 where
  plan : Forest
  broken : Broken
  said : plan_said b (unwrap_or plan_text []) ≡ Ok plan
  unlawful : ¬ IsLawful b plan
  first : IsFirstBroken b plan broken
  answer_is : answer ≡ unlawful_of broken

-- one whose status is `Unlawful` tells the first breach of a plan
broken : (b : Problem) (plan_text : Option (List ℕ)) (text : List ℕ) (answer : Answer) → status.Unlawful ≡ answer.status → NotAccepted b plan_text text answer → IsBroken b plan_text answer
broken b plan_text text answer is (bad_plan reason refused h) = absurd (subst IsRefused (sym is) (plan_refused reason answer h))
broken b plan_text text answer is (bad_cert plan reason said reading h) = absurd (subst IsRefused (sym is) (cert_refused reason answer h))
broken b plan_text text answer is (bad_tree plan c at why said lawful wrong first e) = let wrong = is ∙ ap (λ (a : Answer). a.status) e in cc wrong
broken b plan_text text answer is (broken_plan plan c breach said unlawful first e) =
    record { plan = plan; broken = breach; said = said_plan b plan_text plan said.plan_is; unlawful = unlawful; first = first; answer_is = e }

-- so where some plates are cut already
broken_behind : (b : Problem) (k : ℕ) (plan_text : Option (List ℕ)) (text : List ℕ) (answer : Answer) → status.Unlawful ≡ answer.status → NotAcceptedBehind b k (unwrap_or plan_text []) text answer → IsBroken b plan_text answer
broken_behind b k plan_text text answer is (NotAcceptedBehind.bad_plan reason refused h) = absurd (subst IsRefused (sym is) (plan_refused reason answer h))
broken_behind b k plan_text text answer is (NotAcceptedBehind.bad_cert plan reason said reading h) = absurd (subst IsRefused (sym is) (cert_refused reason answer h))
broken_behind b k plan_text text answer is (NotAcceptedBehind.none_left plan c said lawful few e) = let wrong = is ∙ ap (λ (a : Answer). a.status) e in cc wrong
broken_behind b k plan_text text answer is (NotAcceptedBehind.bad_tree plan rest c at why said lawful fewer rest_is wrong first e) = let wrong = is ∙ ap (λ (a : Answer). a.status) e in cc wrong
broken_behind b k plan_text text answer is (NotAcceptedBehind.broken_plan plan c breach said unlawful first e) =
    record { plan = plan; broken = breach; said = said.plan_is; unlawful = unlawful; first = first; answer_is = e }

broken_from : (k : ℕ) (b : Problem) (texts : Texts) (answer : Answer) → status.Unlawful ≡ answer.status → NotAcceptedFrom k b texts answer → IsBroken b (text_for texts role.Plan) answer
broken_from zero b texts answer is other = broken b (text_for texts role.Plan) (text_or_empty texts role.Cert) answer is other
broken_from (suc k) b texts answer is other = broken_behind b (suc k) (text_for texts role.Plan) (text_or_empty texts role.Cert) answer is other

finds_unlawful : (line : Line) (held : Contents) (old new : World) (answer : Answer) (texts : Texts) (b : Problem) → ReadBy line held texts b → IsBroken b (text_for texts role.Plan) answer →
    Stands answer.stores old.shelf.contents new.shelf.contents → Prints answer.lines old.paper new.paper → FindsUnlawful line held old new
finds_unlawful line held old new answer texts b reads k stored prints = record {
  texts = texts;
  b = b;
  plan = k.plan;
  broken = k.broken;
  reads = reads;
  said = k.said;
  unlawful = k.unlawful;
  first = k.first;
  unchanged = unchanged old.shelf.contents new.shelf.contents (subst (λ (a : Answer). Stands a.stores old.shelf.contents new.shelf.contents) k.answer_is stored);
  prints = subst (λ (a : Answer). Prints a.lines old.paper new.paper) k.answer_is prints;
}

-- the status of an answer to a plan or a certificate that is not right
abbrev IsRefusal : Status → Type 0
IsRefusal status.Unlawful = Unit {0}
IsRefusal status.Refused = Unit {0}
IsRefusal _ = ⊥

ends_well : (closed planned : Bool) → IsRefusal (if closed then (if planned then status.Optimal else status.Infeasible) else status.Stopped) → ⊥
ends_well true true h = h
ends_well true false h = h
ends_well false planned h = h

-- what came of a search that went on is stored, or cannot be read again
goes_well : (b : Problem) (budget : ℕ) (fronts : Bool) (plan : Option Forest) (c : Certificate) (out new : List ℕ) (answer : Answer) → IsRefusal answer.status → GoesOn b budget fronts plan c out new answer → ⊥
goes_well b budget fronts plan c out new answer is g =
    neither IsRefusal (nat_le (length (cert_text g.certificate)) (limit_of role.Cert)) (planned b out new g.certificate g.best None) (too_long_to_read g.certificate)
    (ends_well (g.certificate.left == 0) (is_some g.certificate.loss)) (λ h. h) (subst (λ (a : Answer). IsRefusal a.status) g.answer_is is)

-- an answer of `resume` to what is accepted has another status
no_refusal : (b : Problem) (budget : ℕ) (fronts : Bool) (plan : Option Forest) (c : Certificate) (out new : List ℕ) (answer : Answer) → IsRefusal answer.status → GoesOnWithin b budget fronts plan c out new answer → ⊥
no_refusal b budget fronts plan c out new answer is within =
    elim within [
      | inl g ↦ goes_well b budget fronts plan c out new answer is g.1
      | inr much ↦ subst (λ (a : Answer). IsRefusal a.status) much.1 is
    ]

check_reads : (check : Verb) → IsCheck check → ReadsInstance check
check_reads verb.Draft is = absurd is
check_reads verb.Plan is = absurd is
check_reads verb.Gen is = absurd is
check_reads verb.Judge is = absurd is
check_reads verb.Verify is = tt
check_reads verb.Convert is = tt
check_reads verb.Resume is = tt
check_reads verb.Freeze is = absurd is
check_reads verb.Sheet is = absurd is
check_reads verb.Replay is = absurd is

-- an answer of a check that refuses a plan or a certificate is one to what is not accepted
not_done : (check : Verb) (line : Line) (held : Contents) (answer : Answer) → IsCheck check → line.verb ≡ check → IsRefusal answer.status → (s : Says line held answer) →
    NotAcceptedFrom (cut_already check line) s.b s.texts answer
not_done verb.Draft line held answer check of is s = absurd check
not_done verb.Plan line held answer check of is s = absurd check
not_done verb.Gen line held answer check of is s = absurd check
not_done verb.Judge line held answer check of is s = absurd check
not_done verb.Freeze line held answer check of is s = absurd check
not_done verb.Sheet line held answer check of is s = absurd check
not_done verb.Replay line held answer check of is s = absurd check
not_done verb.Verify line held answer check of is s =
    by (count_in line count.Frozen) (subst (λ (v : Verb). AnswersInstance v line s.texts s.b answer) of s.answers)
  where
    by : (k : ℕ) → VerifiesFrom k s.b (text_for s.texts role.Plan) (text_or_empty s.texts role.Cert) answer → NotAcceptedFrom k s.b s.texts answer
    by zero verifies = elim verifies [
      | inl v ↦ absurd (subst (λ (a : Answer). IsRefusal a.status) v.3 is)
      | inr other ↦ other
    ]
    by (suc k) verifies = elim verifies [
      | inl v ↦ absurd (subst (λ (a : Answer). IsRefusal a.status) v.4 is)
      | inr other ↦ other
    ]
not_done verb.Convert line held answer check of is s =
    let converts : Converts s.b (text_for s.texts role.Plan) (text_or_empty s.texts role.Cert) (cert_name line) answer = subst (λ (v : Verb). AnswersInstance v line s.texts s.b answer) of s.answers in
    elim converts [
      | inl v ↦ absurd (neither IsRefusal (nat_le (length (cert_text v.2)) (limit_of role.Cert)) (converted (cert_name line) v.2) (too_long_to_store role.Cert (cert_text v.2)) (λ h. h) (λ h. h)
          (subst (λ (a : Answer). IsRefusal a.status) v.5 is))
      | inr other ↦ other
    ]
not_done verb.Resume line held answer check of is s =
    let budget = count_in line count.Budget in let fronts = flag_in line flag.Fronts in
    let resumes : Resumes s.b (text_for s.texts role.Plan) (text_or_empty s.texts role.Cert) budget fronts (plan_name line) (cert_name line) answer = subst (λ (v : Verb). AnswersInstance v line s.texts s.b answer) of s.answers in
    elim resumes [
      | inl v ↦ absurd (no_refusal s.b budget fronts v.0 v.1 (plan_name line) (cert_name line) answer is v.3)
      | inr other ↦ other
    ]

pub refused_check : (words : List (List ℕ)) (line : Line) (held : Contents) (old new : World) (check : Verb) → IsCheck check → Ended words check line held old new status.Refused → FindsWrongFrom (cut_already check line) line held old new
refused_check words line held old new check is e =
    let c : Completes Answers line old new status.Refused = e.runs in
    let s = completed_says line held old new status.Refused e.told (λ h. h) c in
    wrong_tree_from (cut_already check line) line held old new c.answer s.texts s.b (read_by check line held s.texts s.b (check_reads check is) e.verb_is s.reads) c.status_is
    (not_done check line held c.answer is e.verb_is (subst IsRefusal c.status_is tt) s) c.stored c.prints

unlawful_check : (words : List (List ℕ)) (line : Line) (held : Contents) (old new : World) (check : Verb) → IsCheck check → Ended words check line held old new status.Unlawful → FindsUnlawful line held old new
unlawful_check words line held old new check is e =
    let c : Completes Answers line old new status.Unlawful = e.runs in
    let s = completed_says line held old new status.Unlawful e.told (λ h. h) c in
    let other = not_done check line held c.answer is e.verb_is (subst IsRefusal c.status_is tt) s in
    finds_unlawful line held old new c.answer s.texts s.b (read_by check line held s.texts s.b (check_reads check is) e.verb_is s.reads) (broken_from (cut_already check line) s.b s.texts c.answer c.status_is other) c.stored c.prints

-- a search is told to have ended in one of three ways
no_plan_refused : (closed planned : Bool) → status.Unlawful ≡ (if closed then (if planned then status.Optimal else status.Infeasible) else status.Stopped) → ⊥
no_plan_refused closed planned e = ends_well closed planned (subst IsRefusal e tt)

-- so where a plan is known before
broken_before : (b : Problem) (budget : ℕ) (watch fronts : Bool) (text : Option (List ℕ)) (out cert : List ℕ) (answer : Answer) → status.Unlawful ≡ answer.status → PlansFrom b budget watch fronts text out cert answer → IsBroken b text answer
broken_before b budget watch fronts text out cert answer is plans =
    elim plans [
      | inl p ↦ absurd (no_plan_refused (p.2.certificate.left == 0) (is_some p.2.certificate.loss) (is ∙ ap (λ (a : Answer). a.status) p.2.answer_is))
      | inr none ↦ by none
    ]
  where
    by : NoLawfulPlan b text answer → IsBroken b text answer
    by (bad_text reason refuses refused) = absurd (subst IsRefused (sym is) (plan_refused reason answer refused))
    by (unlawful_plan plan breach said wrong first e) =
        record { plan = plan; broken = breach; said = said_plan b text plan said; unlawful = wrong; first = first; answer_is = e }

unlawful_before : (words : List (List ℕ)) (line : Line) (held : Contents) (old new : World) → Ended words verb.Plan line held old new status.Unlawful → FindsUnlawful line held old new
unlawful_before words line held old new e =
    let c : Completes Answers line old new status.Unlawful = e.runs in
    let s = completed_says line held old new status.Unlawful e.told (λ h. h) c in
    let budget = count_in line count.Budget in
    let watch = flag_in line flag.Watch in
    let fronts = flag_in line flag.Fronts in
    let within : PlansWithin s.b budget watch fronts (text_for s.texts role.Plan) (plan_name line) (cert_name line) c.answer =
    subst (λ (v : Verb). AnswersInstance v line s.texts s.b c.answer) e.verb_is s.answers in
    elim within [
      | inl w ↦ finds_unlawful line held old new c.answer s.texts s.b (read_by verb.Plan line held s.texts s.b tt e.verb_is s.reads)
          (broken_before s.b budget watch fronts (text_for s.texts role.Plan) (plan_name line) (cert_name line) c.answer c.status_is w.1) c.stored c.prints
      | inr much ↦ absurd (subst IsRefusal (c.status_is ∙ ap (λ (a : Answer). a.status) much.1) tt)
    ]

pub judged_unlawful_by : (words : List (List ℕ)) (line : Line) (held : Contents) (old new : World) (judging : Verb) → IsJudging judging → Ended words judging line held old new status.Unlawful → FindsUnlawful line held old new
judged_unlawful_by words line held old new verb.Draft is e = absurd is
judged_unlawful_by words line held old new verb.Plan is e = unlawful_before words line held old new e
judged_unlawful_by words line held old new verb.Gen is e = absurd is
judged_unlawful_by words line held old new verb.Judge is e = unlawful_judgement words line held old new e
judged_unlawful_by words line held old new verb.Verify is e = unlawful_check words line held old new verb.Verify tt e
judged_unlawful_by words line held old new verb.Convert is e = unlawful_check words line held old new verb.Convert tt e
judged_unlawful_by words line held old new verb.Resume is e = unlawful_check words line held old new verb.Resume tt e
judged_unlawful_by words line held old new verb.Freeze is e = unlawful_freeze words line held old new e
judged_unlawful_by words line held old new verb.Sheet is e = unlawful_sheet words line held old new e
judged_unlawful_by words line held old new verb.Replay is e = absurd is
