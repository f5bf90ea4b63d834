-- What `verify --frozen=K` answers to an instance and the texts of a plan and of a certificate.
use Rattle.std.specs.Prelude.{◌≡◌, ◌⊎◌, ◌<◌, ◌≤◌, ◌+◌, ℕ, zero, suc, List, [], Option, Some, Err, option_map, unwrap_or}
use Rattle.glass_base.specs.Problem.{Problem}
use Rattle.glass_base.specs.declared.role.Role.TheVariants as role
use Rattle.cut_model.specs.declared.broken.Broken.{Broken}
use Rattle.cut_model.specs.Lawful.{IsLawful}
use Rattle.cut_model.specs.Loss.{loss_of}
use Rattle.cut_model.specs.Tree.{Forest, neighbour_count}
use Rattle.plan_csv.specs.declared.bad_plan.BadPlan.{BadPlan}
use Rattle.plan_freeze.specs.Frozen.{later_plates}
use Rattle.plan_freeze.specs.Rests.{IsRest, frozen_loss}
use Rattle.cert_log.specs.declared.bad_cert.BadCert.{BadCert}
use Rattle.cert_log.specs.declared.certificate.Certificate.{Certificate}
use Rattle.cert_log.specs.Good.{IsGood}
use Rattle.cert_log.specs.Outcomes.{IsReading}
use Rattle.cert_check.specs.declared.verdict.Why.{Why}
use Rattle.cert_check.specs.Faults.{IsFirstFault, SaysWrong}
use Rattle.run_frame.specs.Answers.{Answer, bad_input}
use Rattle.run_checks.specs.Checks.{CertRefused, RefusesPlan, Verifies, accepted, refused, root_ranges}
use Rattle.run_plans.specs.Judgements.{IsFirstBroken, PlanRefused, unlawful}
use Rattle.run_checks.specs.Said.{IsPlanIn, SayBoth}

-- the answer where all plates of the plan are to stay, and no plate is left to be planned
abbrev pub all_frozen : ℕ → Forest → Answer
all_frozen k plan = bad_input role.Plan 16 k (neighbour_count plan)

-- this is the answer, and no plate is left
abbrev pub LeavesNone : Forest → ℕ → Answer → Type 0
LeavesNone plan k answer = (neighbour_count plan ≤ k) × (answer ≡ all_frozen k plan)

-- a certificate with this loss added to its loss and to its bound
abbrev pub raised : ℕ → Certificate → Certificate
raised more c = record c { loss = option_map (λ n. more + n) c.loss; bound = option_map (λ n. more + n) c.bound }

-- the loss, in the instance that is left, of what stands behind the first plates of a plan
abbrev pub loss_behind : Problem → ℕ → Forest → Option ℕ
loss_behind rest k plan = Some (loss_of rest (later_plates k plan))

-- the plan is lawful and has more plates than these, and the certificate is right for the box of all plans of the instance that is left behind
-- them, and for what the plan loses there
pub record IsAcceptedBehind (b : Problem) (k : ℕ) (plan_text cert_text : List ℕ) (plan : Forest) (rest : Problem) (c : Certificate) : Type 0 where
  pub said : SayBoth b (Some plan_text) cert_text (Some plan) c
  pub lawful : IsLawful b plan
  pub fewer : k < neighbour_count plan
  pub rest_is : IsRest b plan k rest
  pub good : IsGood rest (root_ranges rest) (loss_behind rest k plan) c

-- the answer where it is not so: to the first that fails, in the order of this list
pub data NotAcceptedBehind (b : Problem) (k : ℕ) (plan_text cert_text : List ℕ) (answer : Answer) : Type 0 where
  bad_plan : (reason : BadPlan) → RefusesPlan b (Some plan_text) reason → PlanRefused reason answer → NotAcceptedBehind b k plan_text cert_text answer
  bad_cert : (plan : Forest) (reason : BadCert) → IsPlanIn b (Some plan_text) (Some plan) → IsReading cert_text (Err reason) → CertRefused reason answer →
      NotAcceptedBehind b k plan_text cert_text answer
  broken_plan : (plan : Forest) (c : Certificate) (broken : Broken) → SayBoth b (Some plan_text) cert_text (Some plan) c → ¬ IsLawful b plan → IsFirstBroken b plan broken →
      answer ≡ unlawful broken → NotAcceptedBehind b k plan_text cert_text answer
  none_left : (plan : Forest) (c : Certificate) → SayBoth b (Some plan_text) cert_text (Some plan) c → IsLawful b plan → neighbour_count plan ≤ k →
      answer ≡ all_frozen k plan → NotAcceptedBehind b k plan_text cert_text answer
  bad_tree : (plan : Forest) (rest : Problem) (c : Certificate) (line : ℕ) (why : Why) → SayBoth b (Some plan_text) cert_text (Some plan) c → IsLawful b plan →
      k < neighbour_count plan → IsRest b plan k rest → SaysWrong rest (root_ranges rest) (loss_behind rest k plan) c why →
      IsFirstFault rest (root_ranges rest) (loss_behind rest k plan) c line why → answer ≡ refused line why → NotAcceptedBehind b k plan_text cert_text answer

-- the answer where the first plates are cut already: the bound has what these plates lose added to it
abbrev pub VerifiesBehind : Problem → ℕ → List ℕ → List ℕ → Answer → Type 0
VerifiesBehind b k plan_text cert_text answer =
    ((plan : Forest) × (rest : Problem) × (c : Certificate) × IsAcceptedBehind b k plan_text cert_text plan rest c × (answer ≡ accepted (raised (frozen_loss b plan k) c)))
    ⊎ NotAcceptedBehind b k plan_text cert_text answer

-- the answer of `verify`, by how many plates are cut already
abbrev pub VerifiesFrom : ℕ → Problem → Option (List ℕ) → List ℕ → Answer → Type 0
VerifiesFrom zero b plan_text cert_text answer = Verifies b plan_text cert_text answer
VerifiesFrom (suc k) b plan_text cert_text answer = VerifiesBehind b (suc k) (unwrap_or plan_text []) cert_text answer
