-- What `freeze` answers to an instance and the text of a plan.
use Rattle.std.specs.Prelude.{◌≡◌, ◌⊎◌, ◌≤◌, ◌<◌, ◌*◌, ℕ, List, length, nat_le, Bool, false, if◌then◌else◌, Some, Ok, Err, Result}
use Rattle.glass_base.specs.Problem.{Problem}
use Rattle.glass_base.specs.declared.role.Role.TheVariants as role
use Rattle.cut_model.specs.declared.broken.Broken.{Broken}
use Rattle.cut_model.specs.Lawful.{IsLawful}
use Rattle.cut_model.specs.Loss.{loss_of}
use Rattle.cut_model.specs.Tree.{Forest, count, neighbour_count}
use Rattle.cert_log.specs.declared.certificate.Certificate.{Certificate}
use Rattle.cert_log.specs.Good.{IsGood, IsVersion, Reaches, version_for}
use Rattle.cert_log.specs.Splits.{IsSearched}
use Rattle.cert_log.specs.Texts.{cert_text}
use Rattle.plan_csv.specs.PlanTexts.{plan_said}
use Rattle.plan_csv.specs.Solutions.{solution_text}
use Rattle.plan_csv.specs.declared.bad_plan.BadPlan.{BadPlan}
use Rattle.plan_freeze.specs.Frozen.{first_plates, joined, later_plates}
use Rattle.plan_freeze.specs.Rests.{IsRest, frozen_loss}
use Rattle.run_frame.specs.Answers.{Answer, bad_input}
use Rattle.run_plans.specs.Judgements.{IsFirstBroken, PlanRefused, unlawful}
use Rattle.run_search.specs.Plans.{IsOfSearch, both_stores, ending, handled, search_summary}
use Rattle.run_search.specs.declared.work.TheConstants.{MOST_WORK}
use Rattle.run_checks.specs.Checks.{root_ranges, too_long_to_store}
use Rattle.run_checks.specs.FrozenChecks.{all_frozen, raised}
use Rattle.run_checks.specs.Said.{SayBoth}
use Rattle.run_frame.specs.Texts.{limit_of}

-- what a search found that goes on from a plan, and may close or split so many boxes: a certificate, and the best plan
pub record IsFoundFrom (b : Problem) (plan : Forest) (budget : ℕ) (fronts : Bool) (c : Certificate) (best : Forest) : Type 0 where
  -- the certificate is right for the box that holds every lawful plan, and for the loss of the best plan; each closed box has its cause
  pub good : IsGood b (root_ranges b) c.loss c
  -- its version is 2, or 3 where it has a floor; where fronts are not asked, it has none
  pub version : IsVersion (version_for c.floor) c
  pub unasked : fronts ≡ false → c.floor ≡ 0
  pub lawful : IsLawful b best
  pub loss_is : c.loss ≡ Some (loss_of b best)
  -- the text of the certificate has no more bytes than one that is read
  pub readable : length (cert_text c) ≤ limit_of role.Cert
  -- every lawful plan loses at least the bound
  pub bounds : (other : Forest) → IsLawful b other → Reaches c.bound (loss_of b other)
  -- no more boxes were closed or split than that, and exactly so many where one was left open
  pub in_budget : handled c ≤ budget
  pub spent : 0 < c.left → handled c ≡ budget
  -- no box was split that is refuted, or whose bound reaches this loss; it is no greater than that of the plan from which the search went on
  pub to_beat : ℕ
  pub searched : IsSearched b to_beat (root_ranges b) c
  pub of_search : IsOfSearch b to_beat budget c
  pub no_greater : to_beat ≤ loss_of b plan
  pub no_worse : loss_of b best ≤ loss_of b plan

-- the whole plan is stored, then the certificate of what is left; the six lines are printed, of which loss and bound have this loss added
abbrev pub frozen_planned : Problem → List ℕ → List ℕ → ℕ → Certificate → Forest → Answer
frozen_planned b out cert more c whole = record {
  status = ending c;
  stores = both_stores b out cert c (Some whole);
  lines = search_summary (raised more c) (Some (neighbour_count whole));
}

-- the same, if the text of the whole plan can be read again
abbrev pub frozen_if_short : Problem → List ℕ → List ℕ → ℕ → Certificate → Forest → Answer
frozen_if_short b out cert more c whole =
    if nat_le (length (solution_text b whole)) (limit_of role.Plan) then frozen_planned b out cert more c whole else too_long_to_store role.Plan (solution_text b whole)

-- what such a search found is stored under these names and told
pub record Freezes (b : Problem) (k budget : ℕ) (fronts : Bool) (plan : Forest) (out cert : List ℕ) (answer : Answer) : Type 0 where
  pub lawful : IsLawful b plan
  pub fewer : k < neighbour_count plan
  pub rest : Problem
  pub rest_is : IsRest b plan k rest
  pub certificate : Certificate
  pub tail : Forest
  pub found : IsFoundFrom rest (later_plates k plan) budget fronts certificate tail
  -- the plan behind the first plates has at most twelve rows for each of its items; the texts of both, if the whole plan is not too long for
  -- one, are read again as the whole plan and this certificate
  pub few : count tail ≤ 12 * length rest.items
  pub said : count (joined (first_plates k plan) tail) ≤ 1000000000
      → SayBoth b (Some (solution_text b (joined (first_plates k plan) tail))) (cert_text certificate) (Some (joined (first_plates k plan) tail)) certificate
  pub answer_is : answer ≡ frozen_if_short b out cert (frozen_loss b plan k) certificate (joined (first_plates k plan) tail)

-- the answer to a plan: its first breach, that no plate is left to be planned, or what a search found
pub data FreezesPlan (b : Problem) (k budget : ℕ) (fronts : Bool) (plan : Forest) (out cert : List ℕ) (answer : Answer) : Type 0 where
  broken_plan : (broken : Broken) → ¬ IsLawful b plan → IsFirstBroken b plan broken → answer ≡ unlawful broken → FreezesPlan b k budget fronts plan out cert answer
  none_left : IsLawful b plan → neighbour_count plan ≤ k → answer ≡ all_frozen k plan → FreezesPlan b k budget fronts plan out cert answer
  planned : Freezes b k budget fronts plan out cert answer → FreezesPlan b k budget fronts plan out cert answer

-- the answer to the plan that was said, or to its refusal
abbrev pub FreezesSaid : Problem → ℕ → ℕ → Bool → Result Forest BadPlan → List ℕ → List ℕ → Answer → Type 0
FreezesSaid b k budget fronts (Ok plan) out cert answer = FreezesPlan b k budget fronts plan out cert answer
FreezesSaid b k budget fronts (Err reason) out cert answer = PlanRefused reason answer

-- the answer to the text of a plan, or a refusal where the search would be too much work
abbrev pub FreezesWithin : Problem → ℕ → ℕ → Bool → List ℕ → List ℕ → List ℕ → Answer → Type 0
FreezesWithin b k budget fronts text out cert answer =
    ((length b.items * budget ≤ MOST_WORK) × FreezesSaid b k budget fronts (plan_said b text) out cert answer)
    ⊎ ((MOST_WORK < length b.items * budget) × (answer ≡ bad_input role.Batch 9 (length b.items) budget))
