-- What a user may conclude from how a check of a certificate ended.
use Rattle.std.proofs.Common.{◌≡◌, ◌≢◌, ℕ, zero, suc, List, sym, ap, subst, ◌∙◌, inl, inr, Option}
use Rattle.glass_base.specs.Problem.{Problem}
use Rattle.glass_base.specs.declared.role.Role.TheVariants as role
use Rattle.glass_io.specs.Told.{Contents}
use Rattle.cut_model.specs.Tree.{Forest}
use Rattle.cert_log.specs.declared.certificate.Certificate.{Certificate}
use Rattle.cert_log.specs.Texts.{cert_text}
use Rattle.cert_log.proofs.Covers.{bounds_each_plan}
use Rattle.plan_freeze.specs.Claims.{IsFrozen}
use Rattle.run_frame.specs.Answers.{Answer}
use Rattle.run_checks.specs.Checks.{Converts, IsAccepted, NotAccepted, Verifies, converted, loss_in, too_long_to_store}
use Rattle.glass_run.specs.FreezeHeadlines.{AcceptsBehind, AcceptsFrom, cut_already}
use Rattle.run_checks.specs.FrozenChecks.{NotAcceptedBehind, VerifiesBehind, VerifiesFrom, loss_behind}
use Rattle.run_checks.specs.Checks.NotAccepted.{bad_cert, bad_plan, bad_tree, broken_plan}
use Rattle.glass_run.specs.Commands.{Answers, AnswersInstance, cert_name}
use Rattle.command_line.specs.Grammar.{Line, count_in}
use Rattle.command_line.specs.declared.kinds.Count.TheVariants as count
use Rattle.glass_run.specs.Headlines.{Accepts, Ended, FindsRight, ReadBy, StoresConverted}
use Rattle.run_frame.specs.Runs.{Completes, Prints, Stands, World}
use Rattle.run_frame.specs.Texts.{Texts, limit_of, text_for, text_or_empty}
use Rattle.command_line.specs.declared.kinds.Verb.{Verb}
use Rattle.command_line.specs.declared.kinds.Verb.TheVariants as verb
use Rattle.run_frame.specs.declared.status.Status.{Status}
use Rattle.run_frame.specs.declared.status.Status.TheVariants as status
use Rattle.run_checks.proofs.RaisedBounds.{bounds_behind}
use Rattle.run_frame.proofs.Stores.{one_stored, unchanged}
use Rattle.glass_run.proofs.Headlines.{Says, completed_says, if_short, read_by}
use Rattle.run_frame.proofs.Statuses.{IsRefused}
use Rattle.run_plans.proofs.Statuses.{plan_refused}
use Rattle.run_checks.proofs.Statuses.{cert_refused}

-- an answer to what is not accepted has none of the statuses of what is
never_done : (b : Problem) (plan_text : Option (List ℕ)) (text : List ℕ) (answer : Answer) → status.Done ≡ answer.status → NotAccepted b plan_text text answer → ⊥
never_done b plan_text text answer is (bad_plan reason refused h) = subst IsRefused (sym is) (plan_refused reason answer h)
never_done b plan_text text answer is (bad_cert plan reason said reading h) = subst IsRefused (sym is) (cert_refused reason answer h)
never_done b plan_text text answer is (broken_plan plan c broken said unlawful first e) = let wrong = is ∙ ap (λ (a : Answer). a.status) e in cc wrong
never_done b plan_text text answer is (bad_tree plan c at why said lawful wrong first e) = let wrong = is ∙ ap (λ (a : Answer). a.status) e in cc wrong

finds_right : (line : Line) (held : Contents) (texts : Texts) (b : Problem) (plan : Option Forest) (c : Certificate) → ReadBy line held texts b →
    IsAccepted b (text_for texts role.Plan) (text_or_empty texts role.Cert) plan c → FindsRight line held texts b c
finds_right line held texts b plan c reads accepted = record {
  plan = plan;
  reads = reads;
  said = accepted.said;
  lawful = accepted.lawful;
  good = accepted.good;
  bounds = bounds_each_plan b 0 (loss_in b plan) c reads.instance_is.made.rules accepted.good;
}

accepts : (line : Line) (held : Contents) (old new : World) (answer : Answer) (texts : Texts) (b : Problem) → ReadBy line held texts b → status.Done ≡ answer.status →
    Verifies b (text_for texts role.Plan) (text_or_empty texts role.Cert) answer → Stands answer.stores old.shelf.contents new.shelf.contents → Prints answer.lines old.paper new.paper → Accepts line held old new
accepts line held old new answer texts b reads is verifies stored prints =
    elim verifies [
      | inl v ↦ record {
        texts = texts;
        b = b;
        certificate = v.1;
        right = finds_right line held texts b v.0 v.1 reads v.2;
        unchanged = unchanged old.shelf.contents new.shelf.contents (subst (λ (a : Answer). Stands a.stores old.shelf.contents new.shelf.contents) v.3 stored);
        prints = subst (λ (a : Answer). Prints a.lines old.paper new.paper) v.3 prints;
      }
      | inr other ↦ absurd (never_done b (text_for texts role.Plan) (text_or_empty texts role.Cert) answer is other)
    ]

-- so where some plates are cut already
never_done_behind : (b : Problem) (k : ℕ) (plan_text text : List ℕ) (answer : Answer) → status.Done ≡ answer.status → NotAcceptedBehind b k plan_text text answer → ⊥
never_done_behind b k plan_text text answer is (NotAcceptedBehind.bad_plan reason refused h) = subst IsRefused (sym is) (plan_refused reason answer h)
never_done_behind b k plan_text text answer is (NotAcceptedBehind.bad_cert plan reason said reading h) = subst IsRefused (sym is) (cert_refused reason answer h)
never_done_behind b k plan_text text answer is (NotAcceptedBehind.broken_plan plan c broken said unlawful first e) = let wrong = is ∙ ap (λ (a : Answer). a.status) e in cc wrong
never_done_behind b k plan_text text answer is (NotAcceptedBehind.none_left plan c said lawful few e) = let wrong = is ∙ ap (λ (a : Answer). a.status) e in cc wrong
never_done_behind b k plan_text text answer is (NotAcceptedBehind.bad_tree plan rest c at why said lawful fewer rest_is wrong first e) = let wrong = is ∙ ap (λ (a : Answer). a.status) e in cc wrong

accepts_behind : (k : ℕ) (line : Line) (held : Contents) (old new : World) (answer : Answer) (texts : Texts) (b : Problem) → ReadBy line held texts b → status.Done ≡ answer.status →
    VerifiesBehind b k (text_or_empty texts role.Plan) (text_or_empty texts role.Cert) answer → Stands answer.stores old.shelf.contents new.shelf.contents → Prints answer.lines old.paper new.paper →
    AcceptsBehind k line held old new
accepts_behind k line held old new answer texts b reads is verifies stored prints =
    elim verifies [
      | inl v ↦
          let right = v.3 in
          let frozen : IsFrozen b v.0 k v.1 = record { problem = reads.instance_is.made.rules; lawful = right.lawful; fewer = right.fewer; rest_is = right.rest_is } in
          record {
            texts = texts;
            b = b;
            plan = v.0;
            rest = v.1;
            certificate = v.2;
            reads = reads;
            right = right;
            bounds = bounds_behind b v.0 k v.1 v.2.bound frozen (bounds_each_plan v.1 0 (loss_behind v.1 k v.0) v.2 right.rest_is.rules right.good);
            unchanged = unchanged old.shelf.contents new.shelf.contents (subst (λ (a : Answer). Stands a.stores old.shelf.contents new.shelf.contents) v.4 stored);
            prints = subst (λ (a : Answer). Prints a.lines old.paper new.paper) v.4 prints;
          }
      | inr other ↦ absurd (never_done_behind b k (text_or_empty texts role.Plan) (text_or_empty texts role.Cert) answer is other)
    ]

accepts_from : (k : ℕ) (line : Line) (held : Contents) (old new : World) (answer : Answer) (texts : Texts) (b : Problem) → ReadBy line held texts b → status.Done ≡ answer.status →
    VerifiesFrom k b (text_for texts role.Plan) (text_or_empty texts role.Cert) answer → Stands answer.stores old.shelf.contents new.shelf.contents → Prints answer.lines old.paper new.paper → AcceptsFrom k line held old new
accepts_from zero line held old new answer texts b reads is verifies stored prints = accepts line held old new answer texts b reads is verifies stored prints
accepts_from (suc k) line held old new answer texts b reads is verifies stored prints = accepts_behind (suc k) line held old new answer texts b reads is verifies stored prints

not_bad : status.Done ≢ status.BadInput
not_bad e = cc e

-- what was converted is stored, and its text is no longer than one that is read
converts : (line : Line) (held : Contents) (old new : World) (answer : Answer) → line.verb ≡ verb.Convert → status.Done ≡ answer.status → Says line held answer →
    Stands answer.stores old.shelf.contents new.shelf.contents → Prints answer.lines old.paper new.paper → StoresConverted line held old new
converts line held old new answer of is s stored prints =
    let converts : Converts s.b (text_for s.texts role.Plan) (text_or_empty s.texts role.Cert) (cert_name line) answer = subst (λ (v : Verb). AnswersInstance v line s.texts s.b answer) of s.answers in
    elim converts [
      | inl v ↦
          let kept = if_short (λ (of : Status). status.Done ≡ of) (cert_text v.2) (limit_of role.Cert) (converted (cert_name line) v.2) (too_long_to_store role.Cert (cert_text v.2)) answer is not_bad v.5 in
          record {
            texts = s.texts;
            b = s.b;
            certificate = v.1;
            converted = v.2;
            right = finds_right line held s.texts s.b v.0 v.1 (read_by verb.Convert line held s.texts s.b tt of s.reads) v.3;
            names = v.4;
            readable = kept.0;
            stored = one_stored (record { name = cert_name line; bytes = cert_text v.2 }) old.shelf.contents new.shelf.contents (subst (λ (a : Answer). Stands a.stores old.shelf.contents new.shelf.contents) kept.1 stored);
            prints = subst (λ (a : Answer). Prints a.lines old.paper new.paper) kept.1 prints;
          }
      | inr other ↦ absurd (never_done s.b (text_for s.texts role.Plan) (text_or_empty s.texts role.Cert) answer is other)
    ]

pub done_check : (words : List (List ℕ)) (line : Line) (held : Contents) (old new : World) → Ended words verb.Verify line held old new status.Done → AcceptsFrom (cut_already verb.Verify line) line held old new
done_check words line held old new e =
    let c : Completes Answers line old new status.Done = e.runs in
    let s = completed_says line held old new status.Done e.told (λ h. h) c in
    let verifies : VerifiesFrom (count_in line count.Frozen) s.b (text_for s.texts role.Plan) (text_or_empty s.texts role.Cert) c.answer =
    subst (λ (v : Verb). AnswersInstance v line s.texts s.b c.answer) e.verb_is s.answers in
    accepts_from (count_in line count.Frozen) line held old new c.answer s.texts s.b (read_by verb.Verify line held s.texts s.b tt e.verb_is s.reads) c.status_is verifies c.stored c.prints

pub done_conversion : (words : List (List ℕ)) (line : Line) (held : Contents) (old new : World) → Ended words verb.Convert line held old new status.Done → StoresConverted line held old new
done_conversion words line held old new e =
    let c : Completes Answers line old new status.Done = e.runs in
    converts line held old new c.answer e.verb_is c.status_is (completed_says line held old new status.Done e.told (λ h. h) c) c.stored c.prints
