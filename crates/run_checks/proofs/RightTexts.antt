-- A check accepts what is right, or does not show the floor.
use Rattle.std.proofs.Common.{◌≡◌, ℕ, ◌+◌, ◌<◌, ◌^◌, List, length, inl, inr, refl, sym, ap, subst, ◌∙◌, arith, Option, Some, None}
use Rattle.std.specs.Prelude.{All, Ok, Err, codes, option_map}
use Rattle.glass_base.specs.Problem.{Problem, IsProblem}
use Rattle.cut_model.specs.Lawful.{IsLawful}
use Rattle.cut_model.specs.Tree.{Forest, neighbour_count}
use Rattle.plan_csv.specs.PlanTexts.{plan_said}
use Rattle.plan_csv.specs.declared.bad_plan.BadPlan.{BadPlan}
use Rattle.plan_freeze.specs.Rests.{IsRest, frozen_loss}
use Rattle.plan_freeze.proofs.SameRests.{rest_is_one}
use Rattle.plan_box.specs.Ranges.{Ranges}
use Rattle.cert_log.specs.declared.bad_cert.BadCert.{BadCert}
use Rattle.cert_log.specs.declared.certificate.Certificate.{Certificate}
use Rattle.cert_log.specs.Good.{IsFloor, IsGood, Passes, least_of, visit_bounds}
use Rattle.cert_log.specs.Outcomes.{IsReading}
use Rattle.cert_log.specs.Readings.{SaySame}
use Rattle.cert_log.specs.Visits.{visits}
use Rattle.cert_log.proofs.OneStop.{one_reading}
use Rattle.cert_log.proofs.RoundTrip.{one_certificate}
use Rattle.cert_check.specs.declared.verdict.Verdict.{Verdict}
use Rattle.cert_check.specs.declared.verdict.Why.{Why}
use Rattle.cert_check.specs.Faults.{IsFloorFault}
use Rattle.cert_check.proofs.Accepting.{only_floor}
use Rattle.run_frame.specs.Answers.{Answer, only_lines}
use Rattle.run_frame.specs.declared.status.Status.TheVariants as status
use Rattle.run_checks.specs.Checks.{CertRefused, IsAccepted, IsLawfulToo, NotAccepted, NotShown, RefusesPlan, accepted, loss_in, refused, root_ranges}
use Rattle.run_checks.specs.Checks.NotAccepted.{bad_cert as bad_certificate, bad_plan, bad_tree, broken_plan}
use Rattle.run_checks.specs.FrozenChecks.{IsAcceptedBehind, NotAcceptedBehind, loss_behind, raised}
use Rattle.run_checks.specs.FrozenChecks.NotAcceptedBehind.{bad_cert as cert_behind, bad_plan as plan_behind, bad_tree as tree_behind, broken_plan as broken_behind, none_left}
use Rattle.run_checks.specs.RightTexts.{RightBehindIsAccepted, RightIsAccepted, RightPasses}
use Rattle.run_checks.specs.Said.{IsPlanIn, SayBoth}
use Rattle.run_checks.specs.inner.Checked.{line_with_bound}

pub right_passes : RightPasses
right_passes b rs loss c good (Verdict.Accept bound left) h = inl (ap (λ (n : Option ℕ). Verdict.Accept n left) h.1 ∙ ap (λ (n : ℕ). Verdict.Accept c.bound n) h.2)
right_passes b rs loss c good (Verdict.Refuse at why) h =
    let fault = only_floor b rs loss c at why good h.0 h.1 in
    inr (fault.found, fault.less, ap (λ (n : ℕ). Verdict.Refuse n why) fault.line_is ∙ ap (Verdict.Refuse 1) fault.why_is)

-- a text says one plan
one_plan : (b : Problem) (text : Option (List ℕ)) (plan other : Option Forest) → IsPlanIn b text plan → IsPlanIn b text other → plan ≡ other
one_plan b None None None h k = refl
one_plan b None None (Some other) h k = absurd k
one_plan b None (Some plan) other h k = absurd h
one_plan b (Some text) None other h k = absurd h
one_plan b (Some text) (Some plan) None h k = absurd k
one_plan b (Some text) (Some plan) (Some other) h k = cc (h, k)

-- a text that says a plan is not refused
plan_not_refused : (b : Problem) (text : Option (List ℕ)) (plan : Option Forest) (reason : BadPlan) → IsPlanIn b text plan → RefusesPlan b text reason → ⊥
plan_not_refused b None plan reason h k = k
plan_not_refused b (Some text) None reason h k = h
plan_not_refused b (Some text) (Some plan) reason h k = cc (h, k)

-- what says the same is as right
pub good_same : (b : Problem) (rs : List Ranges) (loss : Option ℕ) (c d : Certificate) → SaySame c d → IsGood b rs loss c → IsGood b rs loss d
good_same b rs loss c d same good = record {
  tree = good.tree;
  nodes_are = sym same.nodes ∙ good.nodes_are;
  loss_is = sym same.loss ∙ good.loss_is;
  floor_is = subst (IsFloor b) same.floor good.floor_is;
  passes = subst (λ (floor : ℕ). All (Passes b floor loss) (visits rs good.tree)) same.floor good.passes;
  left_is =
      sym same.left ∙ good.left_is
      ∙ ap (λ (floor : ℕ). length (visit_bounds b floor (visits rs good.tree))) same.floor;
  bound_is =
      sym same.bound ∙ good.bound_is
      ∙ ap (λ (floor : ℕ). least_of loss (visit_bounds b floor (visits rs good.tree))) same.floor;
}

-- a floor that was not shown, of a certificate that says the same
not_shown : {b : Problem} (c d : Certificate) (line : ℕ) (why : Why) (answer : Answer) → SaySame c d → IsFloorFault b d line why → answer ≡ refused line why → NotShown c answer
not_shown c d line why answer same fault is = (
  fault.found,
  omega (arith, fault.less, same.floor),
  is ∙ ap (λ (n : ℕ). refused n why) fault.line_is ∙ ap (refused 1) (fault.why_is ∙ ap (λ (floor : ℕ). Why.WrongFloor floor fault.found) (sym same.floor)),
)

-- a text that says a certificate is not refused
no_refusal : (text : List ℕ) (c : Certificate) → length text < 2 ^ 63 → IsReading text (Ok c) → (reason : BadCert) (answer : Answer) → IsReading text (Err reason) → CertRefused reason answer → ⊥
no_refusal text c short says reason answer reading told = subst (λ (r : BadCert). CertRefused r answer) (one_reading text c reason short says reading) told

module _ (b : Problem) (plan_text : Option (List ℕ)) (text : List ℕ) (plan : Option Forest) (c : Certificate) (short : length text < 2 ^ 63) (h : IsAccepted b plan_text text plan c) where
  same : (d : Certificate) → IsReading text (Ok d) → SaySame c d
  same d reading = one_certificate text c d short h.said.reading reading

  right : (other : Option Forest) (d : Certificate) → SayBoth b plan_text text other d → IsGood b (root_ranges b) (loss_in b other) d
  right other d said =
      let loss = ap (loss_in b) (one_plan b plan_text plan other h.said.plan_is said.plan_is) in
      subst (λ (o : Option ℕ). IsGood b (root_ranges b) o d) loss (good_same b (root_ranges b) (loss_in b plan) c d (same d said.reading) h.good)

  lawful : (other : Forest) → IsPlanIn b plan_text (Some other) → IsLawful b other
  lawful other said = subst (IsLawfulToo b) (one_plan b plan_text plan (Some other) h.said.plan_is said) h.lawful

  only_not_shown : (answer : Answer) → NotAccepted b plan_text text answer → NotShown c answer
  only_not_shown answer (bad_plan reason refuses told) = absurd (plan_not_refused b plan_text plan reason h.said.plan_is refuses)
  only_not_shown answer (bad_certificate other reason said reading told) = absurd (no_refusal text c short h.said.reading reason answer reading told)
  only_not_shown answer (broken_plan other d broken said unlawful first is) = absurd (unlawful (lawful other said.plan_is))
  only_not_shown answer (bad_tree other d line why said keeps wrong first is) =
      not_shown c d line why answer (same d said.reading) (only_floor b (root_ranges b) (loss_in b other) d line why (right other d said) first wrong) is

pub right_is_accepted : RightIsAccepted
right_is_accepted b plan_text text plan c short h answer verifies = elim verifies [
  | inl v ↦ inl (let says = same b plan_text text plan c short h v.1 v.2.said.reading in v.3 ∙ cc (says.bound, says.left))
  | inr refused ↦ inr (only_not_shown b plan_text text plan c short h answer refused)
]

module _ (b : Problem) (k : ℕ) (plan_text text : List ℕ) (plan : Forest) (rest : Problem) (c : Certificate) (problem : IsProblem b) (short : length text < 2 ^ 63) (h : IsAcceptedBehind b k plan_text text plan rest c) where
  one_rest : (left : Problem) → IsRest b plan k left → left ≡ rest
  one_rest left is = rest_is_one b plan plan k rest left (record { problem = problem; lawful = h.lawful; fewer = h.fewer; rest_is = h.rest_is }) refl is

  this_plan : (other : Forest) → plan_said b plan_text ≡ Ok other → other ≡ plan
  this_plan other said = cc (said, h.said.plan_is)

  says_same : (d : Certificate) → IsReading text (Ok d) → SaySame c d
  says_same d reading = one_certificate text c d short h.said.reading reading

  -- whatever is read is right for whatever is left
  right_behind : (other : Forest) (left : Problem) (d : Certificate) → other ≡ plan → IsRest b other k left → SaySame c d → IsGood left (root_ranges left) (loss_behind left k other) d
  right_behind other left d is rest_is says =
      let left_is : left ≡ rest = one_rest left (subst (λ (p : Forest). IsRest b p k left) is rest_is) in
      let good : IsGood rest (root_ranges rest) (loss_behind rest k plan) d = good_same rest (root_ranges rest) (loss_behind rest k plan) c d says h.good in
      subst (λ (p : Forest). IsGood left (root_ranges left) (loss_behind left k p) d) (sym is)
      (subst (λ (q : Problem). IsGood q (root_ranges q) (loss_behind q k plan) d) (sym left_is) good)

  only_missed : (answer : Answer) → NotAcceptedBehind b k plan_text text answer → NotShown c answer
  only_missed answer (plan_behind reason refuses told) = absurd (plan_not_refused b (Some plan_text) (Some plan) reason h.said.plan_is refuses)
  only_missed answer (cert_behind other reason said reading told) = absurd (no_refusal text c short h.said.reading reason answer reading told)
  only_missed answer (broken_behind other d broken said unlawful first is) = absurd (unlawful (subst (IsLawful b) (sym (this_plan other said.plan_is)) h.lawful))
  only_missed answer (none_left other d said lawful few is) = absurd (omega (arith, few, h.fewer, ap neighbour_count (this_plan other said.plan_is)))
  only_missed answer (tree_behind other left d line why said lawful fewer rest_is wrong first is) =
      let says = says_same d said.reading in
      not_shown c d line why answer says (only_floor left (root_ranges left) (loss_behind left k other) d line why (right_behind other left d (this_plan other said.plan_is) rest_is says) first wrong) is

told_same : (more : ℕ) (c d : Certificate) → SaySame c d → accepted (raised more d) ≡ accepted (raised more c)
told_same more c d says =
    let line : Option ℕ → ℕ → Answer = λ bound left. only_lines status.Done (line_with_bound (codes "accepted") (option_map (λ n. more + n) bound) left) in
    ap (λ (o : Option ℕ). line o d.left) (sym says.bound) ∙ ap (line c.bound) (sym says.left)

pub right_behind_is_accepted : RightBehindIsAccepted
right_behind_is_accepted b k plan_text text plan rest c problem short h answer verifies = elim verifies [
  | inl v ↦
      let is : v.0 ≡ plan = this_plan b k plan_text text plan rest c problem short h v.0 v.3.said.plan_is in
      inl (v.4 ∙ ap (λ (p : Forest). accepted (raised (frozen_loss b p k) v.2)) is ∙ told_same (frozen_loss b plan k) c v.2 (says_same b k plan_text text plan rest c problem short h v.2 v.3.said.reading))
  | inr refused ↦ inr (only_missed b k plan_text text plan rest c problem short h answer refused)
]
