-- What a user may conclude from how a search ended.
use Rattle.std.proofs.Common.{◌≡◌, ℕ, zero, suc, ◌<◌, ◌≤◌, ◌+◌, ◌-◌, ◌^◌, List, [], ◌∷◌, length, Bool, true, false, cond, arith, refl, sym, ap, subst, ◌∙◌, inl, inr, Option}
use Rattle.std.specs.Prelude.{◌==◌, is_some}
use Rattle.glass_base.specs.Problem.{Problem}
use Rattle.glass_base.specs.declared.role.Role.TheVariants as role
use Rattle.glass_io.specs.Told.{Contents}
use Rattle.plan_box.specs.Frames.{frame_of}
use Rattle.plan_box.specs.Halves.{IsDepth}
use Rattle.plan_box.specs.Ranges.{Ranges}
use Rattle.cert_log.specs.declared.certificate.Certificate.{Certificate}
use Rattle.cert_log.specs.Good.{IsGood, least_of, visit_bounds}
use Rattle.cert_log.specs.Visits.{visits}
use Rattle.cert_log.proofs.GoodNodes.{good_counts, no_larger_than_full}
use Rattle.run_frame.specs.Answers.{Answer}
use Rattle.glass_run.specs.Commands.{Answers, AnswersInstance, cert_name, plan_name}
use Rattle.command_line.specs.Grammar.{Line, count_in, flag_in}
use Rattle.glass_run.specs.Headlines.{Ended, HandlesEachBox, IsSearch, IsSearchEnd, StoresFound, StoresSearch}
use Rattle.run_search.specs.Plans.{PlansWithin, ending, handled, planned}
use Rattle.run_checks.specs.Checks.{NoLawfulPlan, root_ranges}
use Rattle.run_checks.specs.Checks.NoLawfulPlan.{bad_text, unlawful_plan}
use Rattle.run_frame.specs.Texts.{Texts, text_for}
use Rattle.run_frame.specs.Runs.{Completes, LineRun, Prints, Stands, World}
use Rattle.command_line.specs.declared.kinds.Count.TheVariants as count
use Rattle.command_line.specs.declared.kinds.Flag.TheVariants as flag
use Rattle.command_line.specs.declared.kinds.Verb.{Verb}
use Rattle.command_line.specs.declared.kinds.Verb.TheVariants as verb
use Rattle.run_frame.specs.declared.status.Status.{Status}
use Rattle.run_frame.specs.declared.status.Status.TheVariants as status
use Rattle.glass_run.proofs.Headlines.{Says, completed_says}
use Rattle.run_search.proofs.StoredTexts.{is_accepted}
use Rattle.run_frame.proofs.Statuses.{IsRefused}
use Rattle.run_plans.proofs.Statuses.{plan_refused}

-- a run that ended as a search did what its answer says
pub completes : (line : Line) (old new : World) (result : Status) → IsSearchEnd result → LineRun Answers line old new result → Completes Answers line old new result
completes line old new status.Optimal e r = r
completes line old new status.Stopped e r = r
completes line old new status.Infeasible e r = r
completes line old new status.Usage e r = absurd e
completes line old new status.ReadFault e r = absurd e
completes line old new status.Absent e r = absurd e
completes line old new status.TooLong e r = absurd e
completes line old new status.BadInput e r = absurd e
completes line old new status.Memory e r = absurd e
completes line old new status.Unlawful e r = absurd e
completes line old new status.Refused e r = absurd e
completes line old new status.NoDraft e r = absurd e
completes line old new status.WriteFault e r = absurd e
completes line old new status.Done e r = absurd e

-- its status refuses no text
pub accepts : (result : Status) → IsSearchEnd result → ¬ IsRefused result
accepts status.Optimal e h = h
accepts status.Stopped e h = h
accepts status.Infeasible e h = h
accepts status.Usage e h = e
accepts status.ReadFault e h = e
accepts status.Absent e h = e
accepts status.TooLong e h = e
accepts status.BadInput e h = e
accepts status.Memory e h = e
accepts status.Unlawful e h = e
accepts status.Refused e h = e
accepts status.NoDraft e h = e
accepts status.WriteFault e h = e
accepts status.Done e h = e

abbrev end_by : Bool → Bool → Status
end_by closed planned = cond closed (cond planned status.Optimal status.Infeasible) status.Stopped

stopped_open : (closed planned : Bool) → end_by closed planned ≡ status.Stopped → closed ≡ false
stopped_open true true e = cc e
stopped_open true false e = cc e
stopped_open false planned e = refl

open_stopped : (closed planned : Bool) → closed ≡ false → end_by closed planned ≡ status.Stopped
open_stopped true planned e = cc e
open_stopped false planned e = refl

pub stopped_left : (c : Certificate) → ending c ≡ status.Stopped → 0 < c.left
stopped_left c e = let k = stopped_open (c.left == 0) (is_some c.loss) e in grind (arith, k)

pub left_stopped : (c : Certificate) → 0 < c.left → ending c ≡ status.Stopped
left_stopped c some = open_stopped (c.left == 0) (is_some c.loss) (grind (arith, some))

no_bounds : (bounds : List ℕ) → length bounds ≡ 0 → bounds ≡ []
no_bounds [] e = refl
no_bounds (x ∷ xs) e = absurd (omega (arith, e))

-- where no box is left open, the bound is the loss
pub bound_exact : (b : Problem) (rs : List Ranges) (loss : Option ℕ) (c : Certificate) → IsGood b rs loss c → (0 < c.left → ⊥) → c.bound ≡ c.loss
bound_exact b rs loss c good none =
    let bounds = visit_bounds b c.floor (visits rs good.tree) in
    let empty = no_bounds bounds (sym good.left_is ∙ nothing c.left none) in
    good.bound_is ∙ ap (λ (xs : List ℕ). least_of loss xs) empty ∙ sym good.loss_is
  where
    nothing : (n : ℕ) → (0 < n → ⊥) → n ≡ 0
    nothing zero h = refl
    nothing (suc n) h = absurd (h (omega arith))

-- a tree that is not larger than a full one leaves nothing open, where the budget is all of its boxes
no_open : (b : Problem) (c : Certificate) (budget depth : ℕ) → IsGood b (root_ranges b) c.loss c → (0 < c.left → handled c ≡ budget) → IsDepth (frame_of b) depth
    → 2 ^ (depth + 1) - 1 ≤ budget → 0 < c.left → ⊥
no_open b c budget depth good spent is enough some =
    let small = no_larger_than_full b 0 depth c.loss c is good in
    let counts = good_counts b (root_ranges b) c.loss c good in
    let all = spent some in
    few (2 ^ (depth + 1)) (handled c) c.left (length c.nodes.items) budget small counts all enough some
  where
    few : (full handled left nodes budget : ℕ) → nodes < full → handled + left ≡ nodes → handled ≡ budget → full - 1 ≤ budget → 0 < left → ⊥
    few full handled left nodes budget a e f g h = omega arith

-- what is told of a text that says no lawful plan does not end so
not_lawful_ended : (b : Problem) (text : Option (List ℕ)) (answer : Answer) → IsSearchEnd answer.status → NoLawfulPlan b text answer → ⊥
not_lawful_ended b text answer end (bad_text reason refuses refused) = accepts answer.status end (plan_refused reason answer refused)
not_lawful_ended b text answer end (unlawful_plan plan broken said wrong first e) = subst (λ (a : Answer). IsSearchEnd a.status) e end

-- both commands answer so
plans_by : (search : Verb) → IsSearch search → (line : Line) (texts : Texts) (b : Problem) (answer : Answer) → AnswersInstance search line texts b answer →
    PlansWithin b (count_in line count.Budget) (flag_in line flag.Watch) (flag_in line flag.Fronts) (text_for texts role.Plan) (plan_name line) (cert_name line) answer
plans_by verb.Draft is line texts b answer h = absurd is
plans_by verb.Plan is line texts b answer h = h
plans_by verb.Gen is line texts b answer h = h
plans_by verb.Judge is line texts b answer h = absurd is
plans_by verb.Verify is line texts b answer h = absurd is
plans_by verb.Convert is line texts b answer h = absurd is
plans_by verb.Resume is line texts b answer h = absurd is
plans_by verb.Freeze is line texts b answer h = absurd is
plans_by verb.Sheet is line texts b answer h = absurd is
plans_by verb.Replay is line texts b answer h = absurd is

stores_search : (line : Line) (held : Contents) (old new : World) (answer : Answer) (result : Status) (search : Verb) → IsSearch search → line.verb ≡ search → IsSearchEnd result → result ≡ answer.status → Says line held answer →
    Stands answer.stores old.shelf.contents new.shelf.contents → Prints answer.lines old.paper new.paper → StoresSearch line held old new result × HandlesEachBox line held old new
stores_search line held old new answer result search searches of end is s stored prints =
    let budget = count_in line count.Budget in
    let plans : PlansWithin s.b budget (flag_in line flag.Watch) (flag_in line flag.Fronts) (text_for s.texts role.Plan) (plan_name line) (cert_name line) answer = plans_by search searches line s.texts s.b answer (subst (λ (v : Verb). AnswersInstance v line s.texts s.b answer) of s.answers) in
    elim plans [
      | inl within ↦ elim within.1 [
        | inl p ↦
            let found = p.2.found in
            let c = p.2.certificate in
            let ended : result ≡ ending c = is ∙ ap (λ (a : Answer). a.status) p.2.answer_is in
            let stores : StoresFound line held old new = record {
              texts = s.texts;
              b = s.b;
              plan = p.2.plan;
              certificate = c;
              told = p.2.told;
              reads = s.reads;
              stored = subst (λ (a : Answer). Stands a.stores old.shelf.contents new.shelf.contents) p.2.answer_is stored;
              prints = subst (λ (a : Answer). Prints a.lines old.paper new.paper) p.2.answer_is prints;
            } in (
              record {
                found = stores;
                plan_is = found.plan_is;
                bounds = found.bounds;
                good = found.good;
                right = is_accepted s.b p.2.plan c found.said found.plan_is found.good;
                unasked = p.2.unasked;
                readable = found.readable;
                ends = ended;
                left_open = ((λ e. stopped_left c (sym ended ∙ e)), (λ some. ended ∙ left_stopped c some));
                in_budget = found.in_budget;
                spent = λ e. found.spent (stopped_left c (sym ended ∙ e));
                exact = λ ne. bound_exact s.b (root_ranges s.b) c.loss c found.good (λ some. ne (ended ∙ left_stopped c some));
                enough = λ depth depth_is enough e. no_open s.b c budget depth found.good found.spent depth_is enough (stopped_left c (sym ended ∙ e));
                no_worse = found.no_worse;
                before = p.0;
                said_before = p.1;
                no_worse_than_before = p.2.no_worse;
              },
              record {
                found = stores;
                to_beat = found.to_beat;
                of_search = found.of_search;
                searched = found.searched;
                no_greater = found.no_greater;
                improvements = p.2.improvements;
              },
            )
        | inr none ↦ absurd (not_lawful_ended s.b (text_for s.texts role.Plan) answer (subst IsSearchEnd is end) none)
      ]
      | inr refused ↦ absurd (subst IsSearchEnd (is ∙ ap (λ (a : Answer). a.status) refused.1) end)
    ]

pub search_ended : (words : List (List ℕ)) (line : Line) (held : Contents) (old new : World) (result : Status) (search : Verb) → IsSearch search → IsSearchEnd result → Ended words search line held old new result →
    StoresSearch line held old new result × HandlesEachBox line held old new
search_ended words line held old new result search searches end e =
    let c = completes line old new result end e.runs in
    stores_search line held old new c.answer result search searches e.verb_is end c.status_is (completed_says line held old new result e.told (accepts result end) c) c.stored c.prints
