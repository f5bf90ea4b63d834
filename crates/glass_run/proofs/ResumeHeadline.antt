-- What a user may conclude from how `resume` ended.
use Rattle.std.proofs.Common.{◌≡◌, ◌≤◌, ℕ, Bool, List, length, sym, ap, subst, ◌∙◌, inl, inr, Option, None}
use Rattle.glass_base.specs.Problem.{Problem}
use Rattle.glass_base.specs.declared.role.Role.TheVariants as role
use Rattle.glass_io.specs.Told.{Contents}
use Rattle.cut_model.specs.Tree.{Forest}
use Rattle.cert_log.specs.declared.certificate.Certificate.{Certificate}
use Rattle.cert_log.specs.Texts.{cert_text}
use Rattle.cert_log.proofs.Covers.{bounds_each_plan}
use Rattle.command_line.specs.Grammar.{Line, count_in, flag_in}
use Rattle.command_line.specs.declared.kinds.Count.TheVariants as count
use Rattle.command_line.specs.declared.kinds.Flag.TheVariants as flag
use Rattle.command_line.specs.declared.kinds.Verb.{Verb}
use Rattle.command_line.specs.declared.kinds.Verb.TheVariants as verb
use Rattle.run_frame.specs.Answers.{Answer}
use Rattle.run_checks.specs.Checks.{IsAccepted, NotAccepted, loss_in, root_ranges}
use Rattle.run_checks.specs.Checks.NotAccepted.{bad_cert, bad_plan, bad_tree, broken_plan}
use Rattle.glass_run.specs.Commands.{AnswersInstance, cert_name, plan_name}
use Rattle.glass_run.specs.Headlines.{Ended, HandlesOpenBoxes, IsSearchEnd, StoresJoined, StoresResumed}
use Rattle.run_search.specs.Plans.{ending, planned}
use Rattle.run_search.specs.Resumptions.{GoesOn, GoesOnWithin, Resumes, too_long_to_read}
use Rattle.run_frame.specs.Runs.{Prints, Stands, World}
use Rattle.run_frame.specs.Texts.{limit_of, text_for, text_or_empty}
use Rattle.run_frame.specs.declared.status.Status.{Status}
use Rattle.glass_run.proofs.Headlines.{Says, completed_says, if_short, read_by, rules_of}
use Rattle.glass_run.proofs.SearchHeadline.{accepts, bound_exact, completes, left_stopped, stopped_left}
use Rattle.run_plans.proofs.Statuses.{plan_refused}
use Rattle.run_checks.proofs.Statuses.{cert_refused}
use Rattle.run_search.proofs.StoredTexts.{is_accepted}

-- an answer to what is not accepted has none of the statuses of a search
never_ended : (b : Problem) (plan_text : Option (List ℕ)) (text : List ℕ) (answer : Answer) → IsSearchEnd answer.status → NotAccepted b plan_text text answer → ⊥
never_ended b plan_text text answer end (bad_plan reason refused h) = accepts answer.status end (plan_refused reason answer h)
never_ended b plan_text text answer end (bad_cert plan reason said reading h) = accepts answer.status end (cert_refused reason answer h)
never_ended b plan_text text answer end (broken_plan plan c broken said unlawful first e) = subst (λ (a : Answer). IsSearchEnd a.status) e end
never_ended b plan_text text answer end (bad_tree plan c at why said lawful wrong first e) = subst (λ (a : Answer). IsSearchEnd a.status) e end

-- what was joined is stored and told, and its text is no longer than one that is read
is_stored : (b : Problem) (budget : ℕ) (fronts : Bool) (plan : Option Forest) (c : Certificate) (out new : List ℕ) (answer : Answer) → IsSearchEnd answer.status → (g : GoesOn b budget fronts plan c out new answer) →
    (length (cert_text g.certificate) ≤ limit_of role.Cert) × (answer ≡ planned b out new g.certificate g.best None)
is_stored b budget fronts plan c out new answer end g =
    if_short IsSearchEnd (cert_text g.certificate) (limit_of role.Cert) (planned b out new g.certificate g.best None) (too_long_to_read g.certificate) answer end (λ h. h) g.answer_is

stores_more : (line : Line) (held : Contents) (old new : World) (answer : Answer) (result : Status) → line.verb ≡ verb.Resume → (s : Says line held answer) (plan : Option Forest) (c : Certificate) →
    IsAccepted s.b (text_for s.texts role.Plan) (text_or_empty s.texts role.Cert) plan c → GoesOn s.b (count_in line count.Budget) (flag_in line flag.Fronts) plan c (plan_name line) (cert_name line) answer → IsSearchEnd answer.status → result ≡ answer.status →
    Stands answer.stores old.shelf.contents new.shelf.contents → Prints answer.lines old.paper new.paper → StoresResumed line held old new result × HandlesOpenBoxes line held old new
stores_more line held old new answer result of s plan c right g end is stored prints =
    let j = g.certificate in
    let kept = is_stored s.b (count_in line count.Budget) (flag_in line flag.Fronts) plan c (plan_name line) (cert_name line) answer end g in
    let ended : result ≡ ending j = is ∙ ap (λ (a : Answer). a.status) kept.1 in
    let made = g.resumed.made in
    let stores : StoresJoined line held old new = record {
      texts = s.texts;
      b = s.b;
      certificate = c;
      right = record {
        plan = plan;
        reads = read_by verb.Resume line held s.texts s.b tt of s.reads;
        said = right.said;
        lawful = right.lawful;
        good = right.good;
        bounds = bounds_each_plan s.b 0 (loss_in s.b plan) c (rules_of line.verb line s.texts s.b s.reads.instance_is) right.good;
      };
      joined = j;
      plan = g.best;
      stored = subst (λ (a : Answer). Stands a.stores old.shelf.contents new.shelf.contents) kept.1 stored;
      prints = subst (λ (a : Answer). Prints a.lines old.paper new.paper) kept.1 prints;
    } in (
      record {
        found = stores;
        resumed = made;
        accepted = is_accepted s.b g.best j made.said made.plan_is made.good;
        readable = record { plan_short = made.plan_short; cert_short = kept.0 };
        ends = ended;
        left_open = ((λ e. stopped_left j (sym ended ∙ e)), (λ some. ended ∙ left_stopped j some));
        spent = λ e. made.spent (stopped_left j (sym ended ∙ e));
        exact = λ ne. bound_exact s.b (root_ranges s.b) j.loss j made.good (λ some. ne (ended ∙ left_stopped j some));
      },
      record { found = stores; resumed = g.resumed },
    )

stores_resumed : (line : Line) (held : Contents) (old new : World) (answer : Answer) (result : Status) → line.verb ≡ verb.Resume → IsSearchEnd result → result ≡ answer.status → Says line held answer →
    Stands answer.stores old.shelf.contents new.shelf.contents → Prints answer.lines old.paper new.paper → StoresResumed line held old new result × HandlesOpenBoxes line held old new
stores_resumed line held old new answer result of end is s stored prints =
    let budget = count_in line count.Budget in let fronts = flag_in line flag.Fronts in
    let resumes : Resumes s.b (text_for s.texts role.Plan) (text_or_empty s.texts role.Cert) budget fronts (plan_name line) (cert_name line) answer = subst (λ (v : Verb). AnswersInstance v line s.texts s.b answer) of s.answers in
    elim resumes [
      | inl v ↦
          let within : GoesOnWithin s.b budget fronts v.0 v.1 (plan_name line) (cert_name line) answer = v.3 in
          elim within [
            | inl g ↦ stores_more line held old new answer result of s v.0 v.1 v.2 g.1 (subst IsSearchEnd is end) is stored prints
            | inr much ↦ absurd (subst IsSearchEnd (is ∙ ap (λ (a : Answer). a.status) much.1) end)
          ]
      | inr other ↦ absurd (never_ended s.b (text_for s.texts role.Plan) (text_or_empty s.texts role.Cert) answer (subst IsSearchEnd is end) other)
    ]

pub resumption_ended : (words : List (List ℕ)) (line : Line) (held : Contents) (old new : World) (result : Status) → IsSearchEnd result → Ended words verb.Resume line held old new result →
    StoresResumed line held old new result × HandlesOpenBoxes line held old new
resumption_ended words line held old new result end e =
    let c = completes line old new result end e.runs in
    stores_resumed line held old new c.answer result e.verb_is end c.status_is (completed_says line held old new result e.told (accepts result end) c) c.stored c.prints
