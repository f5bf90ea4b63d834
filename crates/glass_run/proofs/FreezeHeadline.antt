-- What a user may conclude from how `freeze` ended.
use Rattle.std.proofs.Common.{◌≡◌, ◌≢◌, ℕ, ◌+◌, ◌≤◌, List, length, Bool, true, false, cond, arith, refl, sym, ap, subst, ◌∙◌, inl, inr, Option, Some}
use Rattle.std.specs.Prelude.{◌==◌, Ok, Err, Result, is_some, nat_le, option_map}
use Rattle.glass_base.specs.Problem.{Problem}
use Rattle.glass_base.specs.declared.role.Role.TheVariants as role
use Rattle.glass_io.specs.Told.{Contents}
use Rattle.cut_model.specs.Lawful.{IsLawful}
use Rattle.cut_model.specs.Loss.{loss_of}
use Rattle.cut_model.specs.Tree.{Forest, count as count_rows}
use Rattle.plan_csv.specs.PlanTexts.{plan_said}
use Rattle.plan_csv.specs.Solutions.{solution_text}
use Rattle.plan_csv.specs.declared.bad_plan.BadPlan.{BadPlan}
use Rattle.plan_csv.proofs.TreesInRange.{read_fits}
use Rattle.plan_freeze.specs.Claims.{IsFrozen}
use Rattle.plan_freeze.specs.Frozen.{first_plates, joined}
use Rattle.plan_freeze.specs.Rests.{frozen_loss}
use Rattle.plan_freeze.proofs.Forests.{first_rows}
use Rattle.plan_freeze.proofs.FrozenLaw.{rest_is_planned, rest_loses, whole_is_found}
use Rattle.cert_log.specs.declared.certificate.Certificate.{Certificate}
use Rattle.cert_log.specs.Texts.{cert_text}
use Rattle.command_line.specs.Grammar.{Line, count_in, files_of, flag_in}
use Rattle.command_line.specs.declared.kinds.Count.TheVariants as count
use Rattle.command_line.specs.declared.kinds.Flag.TheVariants as flag
use Rattle.command_line.specs.declared.kinds.Verb.{Verb}
use Rattle.command_line.specs.declared.kinds.Verb.TheVariants as verb
use Rattle.run_frame.specs.Answers.{Answer}
use Rattle.glass_run.specs.Commands.{Answers, AnswersInstance, cert_name, plan_name}
use Rattle.glass_run.specs.FreezeHeadlines.{HandlesEachBoxBehind, StoresFreeze, StoresWhole, frozen_in, whole_of}
use Rattle.run_search.specs.Freezes.{Freezes, FreezesSaid, FreezesWithin, frozen_planned}
use Rattle.run_search.specs.Freezes.FreezesPlan.{broken_plan, none_left, planned as planned_anew}
use Rattle.glass_run.specs.Headlines.{Ended, FindsUnlawful, IsSearchEnd, SaidBy}
use Rattle.run_search.specs.Plans.{ending}
use Rattle.run_checks.specs.Checks.{root_ranges, too_long_to_store}
use Rattle.run_checks.specs.Said.{SayBoth}
use Rattle.run_frame.specs.Runs.{Completes, Prints, Stands, World}
use Rattle.run_frame.specs.Texts.{Texts, limit_of, text_or_empty}
use Rattle.run_frame.specs.declared.status.Status.{Status}
use Rattle.run_frame.specs.declared.status.Status.TheVariants as status
use Rattle.run_checks.proofs.RaisedBounds.{bounds_behind}
use Rattle.run_search.proofs.FrozenTexts.{right_behind, same_loss}
use Rattle.run_frame.proofs.Stores.{unchanged}
use Rattle.glass_run.proofs.Headlines.{Says, completed_says, if_short, neither, read_by, rules_of}
use Rattle.glass_run.proofs.SearchHeadline.{accepts, bound_exact, completes, left_stopped, stopped_left}
use Rattle.run_frame.proofs.SmallTexts.{text_short}
use Rattle.run_frame.proofs.Statuses.{IsRefused}
use Rattle.run_plans.proofs.Statuses.{plan_refused}

-- the status of an answer
abbrev status_of : Answer → Status
status_of a = a.status

-- an answer that ends a search is that of what was found
said_frozen : (b : Problem) (k budget : ℕ) (fronts : Bool) (said : Result Forest BadPlan) (out cert : List ℕ) (answer : Answer) → IsSearchEnd answer.status → FreezesSaid b k budget fronts said out cert answer →
    (plan : Forest) × (said ≡ Ok plan) × Freezes b k budget fronts plan out cert answer
said_frozen b k budget fronts (Ok plan) out cert answer end (broken_plan broken wrong first is) = absurd (subst IsSearchEnd (ap status_of is) end)
said_frozen b k budget fronts (Ok plan) out cert answer end (none_left lawful le is) = absurd (subst IsSearchEnd (ap status_of is) end)
said_frozen b k budget fronts (Ok plan) out cert answer end (planned_anew found) = (plan, refl, found)
said_frozen b k budget fronts (Err reason) out cert answer end refused = absurd (accepts answer.status end (plan_refused reason answer refused))

-- where a plan was found and no box is left open, the search ended with `optimal`
optimal : (closed : Bool) (loss : Option ℕ) (n : ℕ) → loss ≡ Some n → cond closed (cond (is_some loss) status.Optimal status.Infeasible) status.Stopped ≢ status.Stopped →
    cond closed (cond (is_some loss) status.Optimal status.Infeasible) status.Stopped ≡ status.Optimal
optimal true loss n is ends = ap (λ (o : Option ℕ). cond (is_some o) status.Optimal status.Infeasible) is
optimal false loss n is ends = absurd (ends refl)

-- the texts of what was found say it
texts_say : (line : Line) (held : Contents) (texts : Texts) (b : Problem) (k budget : ℕ) (fronts : Bool) (plan : Forest) (out cert : List ℕ) (answer : Answer) → SaidBy line held texts b →
    plan_said b (text_or_empty texts role.Plan) ≡ Ok plan → (f : Freezes b k budget fronts plan out cert answer) →
    SayBoth b (Some (solution_text b (joined (first_plates k plan) f.tail))) (cert_text f.certificate) (Some (joined (first_plates k plan) f.tail)) f.certificate
texts_say line held texts b k budget fronts plan out cert answer reads said f =
    let short = text_short held (files_of line) texts role.Plan reads.texts_are in
    let rows : count_rows plan ≤ length (text_or_empty texts role.Plan) = (read_fits b (text_or_empty texts role.Plan) plan said).2 in
    f.said (omega (arith, first_rows k plan f.tail, f.few, f.rest_is.rules.few_items, short, rows))

-- what was found is stored and printed
stores_freeze : (line : Line) (held : Contents) (old new : World) (answer : Answer) (result : Status) → line.verb ≡ verb.Freeze → IsSearchEnd result → result ≡ answer.status → Says line held answer →
    Stands answer.stores old.shelf.contents new.shelf.contents → Prints answer.lines old.paper new.paper → StoresFreeze line held old new result × HandlesEachBoxBehind line held old new
stores_freeze line held old new answer result of end is s stored prints =
    let k : ℕ = frozen_in line in
    let budget : ℕ = count_in line count.Budget in
    let fronts : Bool = flag_in line flag.Fronts in
    let b : Problem = s.b in
    let within : FreezesWithin b k budget fronts (text_or_empty s.texts role.Plan) (plan_name line) (cert_name line) answer = subst (λ (v : Verb). AnswersInstance v line s.texts b answer) of s.answers in
    elim within [
      | inl w ↦
          let said = said_frozen b k budget fronts (plan_said b (text_or_empty s.texts role.Plan)) (plan_name line) (cert_name line) answer (subst IsSearchEnd is end) w.1 in
          let plan : Forest = said.0 in
          let f : Freezes b k budget fronts plan (plan_name line) (cert_name line) answer = said.2 in
          let c : Certificate = f.certificate in
          let more : ℕ = frozen_loss b plan k in
          let whole : Forest = whole_of line plan f.tail in
          let frozen : IsFrozen b plan k f.rest = record { problem = rules_of line.verb line s.texts b s.reads.instance_is; lawful = f.lawful; fewer = f.fewer; rest_is = f.rest_is } in
          let begins = whole_is_found plan f.tail k (omega (arith, f.fewer)) in
          let lawful : IsLawful b whole = (rest_is_planned b plan k f.rest frozen whole begins.0).1 (subst (IsLawful f.rest) (sym begins.1) f.found.lawful) in
          let loses : loss_of b whole ≡ more + loss_of f.rest f.tail = rest_loses b plan k f.rest frozen whole begins.0 lawful ∙ ap (λ (t : Forest). more + loss_of f.rest t) begins.1 in
          let kept = if_short IsSearchEnd (solution_text b whole) (limit_of role.Plan) (frozen_planned b (plan_name line) (cert_name line) more c whole) (too_long_to_store role.Plan (solution_text b whole)) answer
          (subst IsSearchEnd is end) (λ h. h) f.answer_is in
          let ended : result ≡ ending c = is ∙ ap status_of kept.1 in
          let stores : StoresWhole line held old new = record {
            texts = s.texts;
            b = b;
            plan = plan;
            rest = f.rest;
            tail = f.tail;
            certificate = c;
            reads = read_by verb.Freeze line held s.texts b tt of s.reads;
            said = said.1;
            lawful = f.lawful;
            fewer = f.fewer;
            rest_is = f.rest_is;
            stored = subst (λ (a : Answer). Stands a.stores old.shelf.contents new.shelf.contents) kept.1 stored;
            prints = subst (λ (a : Answer). Prints a.lines old.paper new.paper) kept.1 prints;
          } in (
            record {
              found = stores;
              begins = begins.0;
              whole_lawful = lawful;
              loss_is = ap (option_map (λ n. more + n)) f.found.loss_is ∙ ap Some (sym loses);
              no_worse = omega (arith, loses, rest_loses b plan k f.rest frozen plan refl f.lawful, f.found.no_worse);
              bounds = bounds_behind b plan k f.rest c.bound frozen f.found.bounds;
              good = f.found.good;
              right = right_behind b plan k f.rest f.tail c frozen f.found.lawful f.found.loss_is f.found.good
                  (texts_say line held s.texts b k budget fronts plan (plan_name line) (cert_name line) answer s.reads said.1 f);
              same_loss = same_loss b plan k f.rest f.tail c frozen f.found.lawful;
              unasked = f.found.unasked;
              readable = record { plan_short = kept.0; cert_short = f.found.readable };
              left_open = ((λ e. stopped_left c (sym ended ∙ e)), (λ some. ended ∙ left_stopped c some));
              in_budget = f.found.in_budget;
              spent = λ e. f.found.spent (stopped_left c (sym ended ∙ e));
              exact = λ ne. (
                ended ∙ optimal (c.left == 0) c.loss (loss_of f.rest f.tail) f.found.loss_is (λ e. ne (ended ∙ e)),
                bound_exact f.rest (root_ranges f.rest) c.loss c f.found.good (λ some. ne (ended ∙ left_stopped c some)),
              );
            },
            record {
              found = stores;
              to_beat = f.found.to_beat;
              of_search = f.found.of_search;
              searched = f.found.searched;
              no_greater = f.found.no_greater;
            },
          )
      | inr refused ↦ absurd (subst IsSearchEnd (is ∙ ap status_of refused.1) end)
    ]

pub freeze_ended : (words : List (List ℕ)) (line : Line) (held : Contents) (old new : World) (result : Status) → IsSearchEnd result → Ended words verb.Freeze line held old new result →
    StoresFreeze line held old new result × HandlesEachBoxBehind line held old new
freeze_ended words line held old new result end e =
    let c = completes line old new result end e.runs in
    stores_freeze line held old new c.answer result e.verb_is end c.status_is (completed_says line held old new result e.told (accepts result end) c) c.stored c.prints

ends_no_other_way : (closed found : Bool) → cond closed (cond found status.Optimal status.Infeasible) status.Stopped ≢ status.Unlawful
ends_no_other_way true true e = cc e
ends_no_other_way true false e = cc e
ends_no_other_way false found e = cc e

differ : status.Unlawful ≢ status.BadInput
differ e = cc e

-- an answer whose status is `Unlawful` tells the first breach of the plan that PLAN says
said_broken : (line : Line) (held : Contents) (old new : World) (answer : Answer) → line.verb ≡ verb.Freeze → (s : Says line held answer) (k budget : ℕ) (fronts : Bool) (said : Result Forest BadPlan) (out cert : List ℕ) → plan_said s.b (text_or_empty s.texts role.Plan) ≡ said →
    status.Unlawful ≡ answer.status → FreezesSaid s.b k budget fronts said out cert answer → Stands answer.stores old.shelf.contents new.shelf.contents → Prints answer.lines old.paper new.paper → FindsUnlawful line held old new
said_broken line held old new answer of s k budget fronts (Ok plan) out cert says is (broken_plan broken wrong first e) stored prints = record {
  texts = s.texts;
  b = s.b;
  plan = plan;
  broken = broken;
  reads = read_by verb.Freeze line held s.texts s.b tt of s.reads;
  said = says;
  unlawful = wrong;
  first = first;
  unchanged = unchanged old.shelf.contents new.shelf.contents (subst (λ (a : Answer). Stands a.stores old.shelf.contents new.shelf.contents) e stored);
  prints = subst (λ (a : Answer). Prints a.lines old.paper new.paper) e prints;
}
said_broken line held old new answer of s k budget fronts (Ok plan) out cert says is (none_left lawful le e) stored prints = absurd (differ (is ∙ ap status_of e))
said_broken line held old new answer of s k budget fronts (Ok plan) out cert says is (planned_anew f) stored prints =
    let whole : Forest = joined (first_plates k plan) f.tail in
    absurd (neither (λ (of : Status). status.Unlawful ≡ of) (nat_le (length (solution_text s.b whole)) (limit_of role.Plan)) (frozen_planned s.b out cert (frozen_loss s.b plan k) f.certificate whole)
    (too_long_to_store role.Plan (solution_text s.b whole)) (λ e. ends_no_other_way (f.certificate.left == 0) (is_some f.certificate.loss) (sym e)) differ (is ∙ ap status_of f.answer_is))
said_broken line held old new answer of s k budget fronts (Err reason) out cert says is refused stored prints = absurd (subst IsRefused (sym is) (plan_refused reason answer refused))

pub unlawful_freeze : (words : List (List ℕ)) (line : Line) (held : Contents) (old new : World) → Ended words verb.Freeze line held old new status.Unlawful → FindsUnlawful line held old new
unlawful_freeze words line held old new e =
    let c : Completes Answers line old new status.Unlawful = e.runs in
    let s = completed_says line held old new status.Unlawful e.told (λ h. h) c in
    let within : FreezesWithin s.b (frozen_in line) (count_in line count.Budget) (flag_in line flag.Fronts) (text_or_empty s.texts role.Plan) (plan_name line) (cert_name line) c.answer =
    subst (λ (v : Verb). AnswersInstance v line s.texts s.b c.answer) e.verb_is s.answers in
    elim within [
      | inl w ↦ said_broken line held old new c.answer e.verb_is s (frozen_in line) (count_in line count.Budget) (flag_in line flag.Fronts) (plan_said s.b (text_or_empty s.texts role.Plan)) (plan_name line) (cert_name line) refl c.status_is w.1 c.stored c.prints
      | inr refused ↦ absurd (differ (c.status_is ∙ ap status_of refused.1))
    ]
