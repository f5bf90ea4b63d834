-- What a search finds that goes on from a plan, and what stands behind the first plates of one.
use Rattle.std.proofs.Common.{◌≡◌, ℕ, ◌<◌, ◌≤◌, ◌+◌, ◌*◌, ◌^◌, List, arith, refl, sym, ap, ◌∙◌, subst, Bool, false, Option, Some}
use Rattle.std.specs.Prelude.{IfOk, IfSome, Ok, Err, Result, length}
use Rattle.std.proofs.lemmas.List.Elements.{All-weaker}
use Rattle.glass_base.specs.Problem.{Problem, IsProblem}
use Rattle.cut_model.specs.Lawful.{IsLawful as IsLawfulPlan}
use Rattle.cut_model.specs.Loss.{loss_of as plan_loss}
use Rattle.cut_model.specs.declared.plan.Plan.{Plan}
use Rattle.cut_model.specs.Families.{families_of}
use Rattle.cut_model.specs.Fits.{Fits}
use Rattle.cut_model.specs.Rules.{AddsUp, KeepsCutRules}
use Rattle.cut_model.specs.Tree.{Forest, count, neighbour_count, tree}
use Rattle.plan_freeze.specs.Claims.{IsFrozen}
use Rattle.plan_freeze.specs.Frozen.{first_plates, joined, later_plates}
use Rattle.plan_freeze.specs.Rests.{IsRest, frozen_loss}
use Rattle.plan_freeze.proofs.Forests.{joined_fits}
use Rattle.plan_freeze.proofs.FrozenLaw.{rest_is_planned, rest_loses, whole_is_found}
use Rattle.cert_log.specs.declared.certificate.Certificate.{Certificate}
use Rattle.cert_log.specs.declared.history.History.{History}
use Rattle.cert_log.specs.Good.{IsGood, IsVersion, Reaches, version_for}
use Rattle.cert_log.specs.Lawful.{loss_of}
use Rattle.cert_log.specs.Outcomes.{IsHead}
use Rattle.cert_log.specs.Texts.{cert_text, head_of}
use Rattle.cert_log.proofs.Covers.{bounds_each_plan}
use Rattle.cert_log.proofs.Versions.{has_version}
use Rattle.run_frame.specs.Answers.{Answer}
use Rattle.run_search.specs.Freezes.{Freezes, FreezesPlan, FreezesSaid, IsFoundFrom, frozen_if_short}
use Rattle.run_plans.specs.Judgements.{TellsNoPlan}
use Rattle.plan_csv.specs.PlanTexts.{plan_said}
use Rattle.run_search.specs.Plans.{HasLoss}
use Rattle.run_checks.specs.Checks.{root_ranges}
use Rattle.run_checks.specs.Said.{SayBoth}
use Rattle.plan_csv.specs.Solutions.{solution_text}
use Rattle.plan_csv.specs.declared.bad_plan.BadPlan.{BadPlan}
use Rattle.plan_csv.proofs.AddedUp.{plan_within}
use Rattle.plan_csv.proofs.ReadAgain.{read_again}
use Rattle.run_search.specs.inner.Searches.{Certifies, IsFoundBehind, IsHistoryFrom}
use Rattle.run_checks.proofs.RaisedBounds.{loss_small, raises_some}
use Rattle.run_search.proofs.Searched.{known, names_causes, of_search}
use Rattle.run_search.proofs.StoredTexts.{both_said, cert_short, is_text}
use Rattle.glass_base.specs.declared.limits.TheConstants.{MOST_BUDGET}

-- its best loss is known
best_known : (b : Problem) (plan : Forest) (budget : ℕ) (fronts : Bool) (h : History) → IsHistoryFrom b plan budget fronts h → loss_of h.best ≡ Some h.best
best_known b plan budget fronts h is = known h.best (omega (arith, is.lawful.best_first, is.known))

-- what the search found
pub found_from : (b : Problem) (plan : Forest) (budget : ℕ) (fronts : Bool) (h : History) (c : Certificate) (best : Forest) → IsProblem b → (is : IsHistoryFrom b plan budget fronts h) →
    Certifies b budget is.to_beat h c → IsHead (head_of c) → budget ≤ MOST_BUDGET → HasLoss b (loss_of h.best) (Some best) → IsFoundFrom b plan budget fronts c best
found_from b plan budget fronts h c best problem is certifies head most has =
    let known_best = best_known b plan budget fronts h is in
    let of : IsLawfulPlan b best × (plan_loss b best ≡ h.best) = subst (λ (o : Option ℕ). HasLoss b o (Some best)) known_best has in
    let loss = certifies.good.loss_is in
    let good = subst (λ (o : Option ℕ). IsGood b (root_ranges b) o c) (sym loss) certifies.good in
    record {
      good = good;
      version = subst (λ (n : ℕ). IsVersion (version_for n) c) (sym certifies.version.1) certifies.version.0;
      unasked = λ asked. certifies.version.1 ∙ is.unasked asked;
      lawful = of.0;
      loss_is = loss ∙ known_best ∙ ap Some (sym of.1);
      readable = cert_short b c budget problem good (names_causes h.floor c certifies.version) head certifies.in_budget most;
      bounds = bounds_each_plan b 0 (loss_of h.best) c problem certifies.good;
      in_budget = certifies.in_budget;
      spent = certifies.spent;
      to_beat = is.to_beat;
      searched = certifies.searched;
      of_search = of_search b budget is.to_beat h c is.lawful certifies;
      no_greater = is.no_greater;
      no_worse = omega (arith, of.1, is.lawful.best_first, is.no_greater);
    }

-- what was found behind the first plates of a plan
module _ (b : Problem) (plan : Forest) (k budget : ℕ) (fronts : Bool) (c : Certificate) (best : Forest) (rules : IsProblem b) (lawful : IsLawfulPlan b plan) (fewer : k < neighbour_count plan)
    (is : IsFoundBehind b plan k budget fronts c best) where
  all_loss : plan_loss b plan ≡ frozen_loss b plan k + plan_loss is.left (later_plates k plan)
  all_loss = rest_loses b plan k is.left (record { problem = rules; lawful = lawful; fewer = fewer; rest_is = is.rest_is }) plan refl lawful

  best_small : frozen_loss b plan k + plan_loss is.left best ≤ plan_loss b plan
  best_small = omega (arith, all_loss, is.found.no_worse)

  pub loss_raises : IfSome c.loss (λ n. frozen_loss b plan k + n < 2 ^ 64)
  loss_raises =
      raises_some (frozen_loss b plan k) (plan_loss is.left best) (plan_loss b plan) c.loss
      (subst (λ (o : Option ℕ). Reaches o (plan_loss is.left best)) (sym is.found.loss_is) (omega arith)) best_small (loss_small b plan rules lawful)

  pub bound_raises : IfSome c.bound (λ n. frozen_loss b plan k + n < 2 ^ 64)
  bound_raises = raises_some (frozen_loss b plan k) (plan_loss is.left best) (plan_loss b plan) c.bound (is.found.bounds best is.found.lawful) best_small (loss_small b plan rules lawful)

-- what a search found that goes on from the plates behind the first ones
pub behind : (b left : Problem) (plan tail : Forest) (k budget : ℕ) (fronts : Bool) (c : Certificate) (best : Forest) → IsRest b plan k left → tail ≡ later_plates k plan → IsFoundFrom left tail budget fronts c best → count best ≤ 12 * length left.items →
    IsHead (head_of c) → IsFoundBehind b plan k budget fronts c best
behind b left plan tail k budget fronts c best is same found few head =
    record { left = left; rest_is = is; found = subst (λ (t : Forest). IsFoundFrom left t budget fronts c best) same found; few = few; head = head }

-- what follows of three facts on what a call gave
pub if_all : {X E : Type 0} (r : Result X E) (P Q R S : X → Type 0) → ((x : X) → P x → Q x → R x → S x) → IfOk r P → IfOk r Q → IfOk r R → IfOk r S
if_all (Ok x) P Q R S more p q r = more x p q r
if_all (Err e) P Q R S more p q r = tt

-- the whole plan fits, since the plan behind the first plates has few rows
pub whole_fits : (b : Problem) (plan : Forest) (k budget : ℕ) (fronts : Bool) (c : Certificate) (best whole : Forest) → Fits plan → count plan ≤ 1000000000 → Fits best → IsFoundBehind b plan k budget fronts c best →
    whole ≡ joined (first_plates k plan) best → Fits whole
whole_fits b plan k budget fronts c best whole fits rows best_fits is glued =
    subst Fits (sym glued) (joined_fits k plan best fits best_fits rows (omega (arith, is.few, is.rest_is.rules.few_items)))

-- the texts of the whole plan, if it is not too long for one, and of the certificate are read again
pub whole_said : (b : Problem) (plan : Forest) (k budget : ℕ) (fronts : Bool) (c : Certificate) (best : Forest) (whole : Plan) → IsProblem b → IsLawfulPlan b plan → k < neighbour_count plan → budget ≤ MOST_BUDGET → (is : IsFoundBehind b plan k budget fronts c best) →
    Fits (tree whole) → tree whole ≡ joined (first_plates k plan) best → count (tree whole) ≤ 1000000000 → SayBoth b (Some (solution_text b (tree whole))) (cert_text c) (Some (tree whole)) c
whole_said b plan k budget fronts c best whole rules lawful fewer small is fits glued few =
    let frozen : IsFrozen b plan k is.left = record { problem = rules; lawful = lawful; fewer = fewer; rest_is = is.rest_is } in
    let begins = whole_is_found plan best k (omega (arith, fewer)) in
    let joined_lawful : IsLawfulPlan b (joined (first_plates k plan) best) = (rest_is_planned b plan k is.left frozen (joined (first_plates k plan) best) begins.0).1 (subst (IsLawfulPlan is.left) (sym begins.1) is.found.lawful) in
    let keeps : IsLawfulPlan b (tree whole) = subst (IsLawfulPlan b) (sym glued) joined_lawful in
    let adds_up = All-weaker (KeepsCutRules b) (λ f. AddsUp f f.sort) (λ f keeps. keeps.l1) (families_of b (tree whole)) keeps.cuts in
    let said = read_again b whole rules (record { fits = fits; within = plan_within b whole fits adds_up; few = few }) in
    both_said b (Some (tree whole)) c said (is_text is.left c is.rest_is.rules is.found.good (has_version c.floor c (is.found.version, refl)) (omega (arith, is.found.in_budget, small)) is.head)

-- it is stored and told
pub freezes : (b : Problem) (plan : Forest) (k budget more : ℕ) (fronts : Bool) (c : Certificate) (best : Forest) (whole : Plan) (out cert : List ℕ) (answer : Answer) → IsProblem b → IsLawfulPlan b plan → k < neighbour_count plan → budget ≤ MOST_BUDGET →
    IsFoundBehind b plan k budget fronts c best → Fits plan → count plan ≤ 1000000000 → Fits best → more ≡ frozen_loss b plan k → tree whole ≡ joined (first_plates k plan) best → answer ≡ frozen_if_short b out cert more c (tree whole) →
    Freezes b k budget fronts plan out cert answer
freezes b plan k budget more fronts c best whole out cert answer rules lawful fewer small is fits rows best_fits loses glued told = record {
  lawful = lawful;
  fewer = fewer;
  rest = is.left;
  rest_is = is.rest_is;
  certificate = c;
  tail = best;
  found = is.found;
  few = is.few;
  said = λ few.
      subst (λ (t : Forest). SayBoth b (Some (solution_text b t)) (cert_text c) (Some t) c) glued
      (whole_said b plan k budget fronts c best whole rules lawful fewer small is (whole_fits b plan k budget fronts c best (tree whole) fits rows best_fits is glued) glued (subst (λ (t : Forest). count t ≤ 1000000000) (sym glued) few));
  answer_is = told ∙ ap (λ (n : ℕ). frozen_if_short b out cert n c (tree whole)) loses ∙ ap (frozen_if_short b out cert (frozen_loss b plan k) c) glued;
}

-- the answer to the plan that was said
pub said_plan : (b : Problem) (plan : Forest) (k budget : ℕ) (fronts : Bool) (said : Result Forest BadPlan) (out cert : List ℕ) (answer : Answer) → said ≡ Ok plan → FreezesPlan b k budget fronts plan out cert answer → FreezesSaid b k budget fronts said out cert answer
said_plan b plan k budget fronts said out cert answer is h = rw is h

-- the answer to a text that says no plan
pub refused_plan : (b : Problem) (k budget : ℕ) (fronts : Bool) (text out cert : List ℕ) (answer : Answer) → TellsNoPlan b text answer → FreezesSaid b k budget fronts (plan_said b text) out cert answer
refused_plan b k budget fronts text out cert answer told = rw told.1 told.2
