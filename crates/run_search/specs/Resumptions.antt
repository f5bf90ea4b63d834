-- What `resume` answers to an instance and the texts of a plan and of a certificate.
use Rattle.std.specs.Prelude.{◌≡◌, ◌≤◌, ◌<◌, ◌+◌, ◌*◌, ◌⊎◌, ℕ, List, length, nat_le, Bool, false, if◌then◌else◌, option_map, IfSome, Option, Some, None}
use Rattle.glass_base.specs.Problem.{Problem}
use Rattle.glass_base.specs.declared.role.Role.TheVariants as role
use Rattle.cut_model.specs.Lawful.{IsLawful}
use Rattle.cut_model.specs.Loss.{loss_of}
use Rattle.cut_model.specs.Tree.{Forest}
use Rattle.cert_log.specs.declared.certificate.Certificate.{Certificate}
use Rattle.cert_log.specs.declared.history.History.{History}
use Rattle.cert_log.specs.Good.{HasVersion, IsGood, Reaches}
use Rattle.cert_log.specs.Lawful.{IsLawful as IsLawfulHistory}
use Rattle.cert_log.specs.Splits.{AreSearched}
use Rattle.cert_log.specs.Texts.{cert_text}
use Rattle.cert_log.specs.Values.{IsNumber}
use Rattle.cert_resume.specs.Joins.{IsAtMost, IsJoined}
use Rattle.cert_resume.specs.OpenBoxes.{left_boxes_of}
use Rattle.plan_csv.specs.Solutions.{solution_text}
use Rattle.run_frame.specs.Answers.{Answer, bad_input}
use Rattle.run_checks.specs.Checks.{IsAccepted, IsConverted, NotAccepted, loss_in, root_ranges}
use Rattle.run_search.specs.Plans.{HasLoss, course_from, handled, planned}
use Rattle.run_search.specs.declared.work.TheConstants.{MOST_WORK}
use Rattle.run_checks.specs.Said.{SayBoth}
use Rattle.run_frame.specs.Texts.{limit_of}

-- what a search of this budget made of a certificate, which was right for the loss of this plan, if there is one: a joined certificate and the
-- best plan; its floor is greater only where it was asked what fronts show
pub record IsResumed (b : Problem) (budget : ℕ) (fronts : Bool) (plan : Option Forest) (c j : Certificate) (best : Option Forest) : Type 0 where
  -- its tree is that of the certificate that names the causes, with the tree of a part in the place of each open node
  pub named : Certificate
  pub names : IsConverted b c named
  pub parts : List Certificate
  pub joined : IsJoined named parts j.floor j.loss j
  pub floor_kept : named.floor ≤ j.floor
  pub unasked : fronts ≡ false → j.floor ≡ named.floor
  -- it is right for the box of all plans and for the loss of the best plan, which is no greater than that of the plan
  pub good : IsGood b (root_ranges b) j.loss j
  pub version : HasVersion j
  pub plan_is : HasLoss b j.loss best
  pub no_worse : IsAtMost j.loss (loss_in b plan)
  -- every lawful plan loses at least its bound; where there is no bound, there is no lawful plan
  pub bounds : (other : Forest) → IsLawful b other → Reaches j.bound (loss_of b other)
  -- the texts of both, if there is a plan, are read again as this plan and this certificate; that of the plan has no more bytes than one that is read
  pub few : IsNumber (length j.nodes.items)
  pub plan_short : IfSome (option_map (solution_text b) best) (λ text. length text ≤ limit_of role.Plan)
  pub said : SayBoth b (option_map (solution_text b) best) (cert_text j) best j
  -- no more boxes were closed or split than the budget says beside those of the certificate, and exactly so many where one is left open
  pub in_budget : handled j ≤ handled c + budget
  pub spent : 0 < j.left → handled j ≡ handled c + budget

-- and each box that the certificate leaves open, and each of its parts, was handled once or is left open
pub record ResumesEachBox (b : Problem) (budget : ℕ) (fronts : Bool) (plan : Option Forest) (c j : Certificate) (best : Option Forest) : Type 0 where
  pub made : IsResumed b budget fronts plan c j best
  pub open made use *
  -- in the trees put in no box was split that is refuted, or whose bound reaches this loss; it is no greater than that of the plan
  pub to_beat : ℕ
  pub searched : AreSearched b to_beat (left_boxes_of b names.good.tree) parts
  pub no_greater : IsAtMost (Some to_beat) (loss_in b plan)
  -- they are those of a lawful history of a search from the open boxes, in which each box was handled once or is left open
  pub history : History
  pub lawful : IsLawfulHistory b (course_from (left_boxes_of b names.good.tree) to_beat budget j.floor) history
  pub handled_is : handled j ≡ handled c + length history.log.items
  pub left_is : j.left ≡ length history.left.items

-- the answer where the text of a joined certificate has more bytes than one that is read: nothing is stored
abbrev pub too_long_to_read : Certificate → Answer
too_long_to_read c = bad_input role.Cert 17 (length (cert_text c)) (limit_of role.Cert)

-- what came of it is stored under these names and told, if it can be read again
pub record GoesOn (b : Problem) (budget : ℕ) (fronts : Bool) (plan : Option Forest) (c : Certificate) (out new : List ℕ) (answer : Answer) : Type 0 where
  pub certificate : Certificate
  pub best : Option Forest
  pub resumed : ResumesEachBox b budget fronts plan c certificate best
  pub answer_is : answer ≡ (if nat_le (length (cert_text certificate)) (limit_of role.Cert) then planned b out new certificate best None else too_long_to_read certificate)

-- the answer to a certificate that is accepted, or a refusal where its open boxes and the budget would be too much work
abbrev pub GoesOnWithin : Problem → ℕ → Bool → Option Forest → Certificate → List ℕ → List ℕ → Answer → Type 0
GoesOnWithin b budget fronts plan c out new answer =
    ((length b.items * (budget + c.left) ≤ MOST_WORK) × GoesOn b budget fronts plan c out new answer)
    ⊎ ((MOST_WORK < length b.items * (budget + c.left)) × (answer ≡ bad_input role.Cert 15 (length b.items) (budget + c.left)))

-- the answer of `resume`
abbrev pub Resumes : Problem → Option (List ℕ) → List ℕ → ℕ → Bool → List ℕ → List ℕ → Answer → Type 0
Resumes b plan_text cert_text budget fronts out new answer =
    ((plan : Option Forest) × (c : Certificate) × IsAccepted b plan_text cert_text plan c × GoesOnWithin b budget fronts plan c out new answer)
    ⊎ NotAccepted b plan_text cert_text answer
