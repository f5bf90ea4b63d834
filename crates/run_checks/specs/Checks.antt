-- What `verify` and `convert` answer to an instance and the texts of a plan and of a certificate.
use Rattle.std.specs.Prelude.{◌≡◌, ◌<◌, ◌⊎◌, ◌++◌, ℕ, List, [], ◌∷◌, length, nat_le, if◌then◌else◌, Option, Some, None, Err, codes}
use Rattle.std.specs.Fmt.{decimal}
use Rattle.glass_base.specs.Problem.{Problem}
use Rattle.glass_base.specs.declared.role.Role.{Role}
use Rattle.glass_base.specs.declared.role.Role.TheVariants as role
use Rattle.cut_model.specs.declared.broken.Broken.{Broken}
use Rattle.cut_model.specs.Lawful.{IsLawful}
use Rattle.cut_model.specs.Loss.{loss_of}
use Rattle.cut_model.specs.declared.plan.Plan.{Plan}
use Rattle.cut_model.specs.Fits.{Fits}
use Rattle.cut_model.specs.Tree.{Forest, tree}
use Rattle.plan_box.specs.Frames.{frame_of}
use Rattle.plan_box.specs.Ranges.{Ranges, root_of}
use Rattle.plan_box.specs.Vars.{var_number}
use Rattle.plan_csv.specs.PlanTexts.{plan_said}
use Rattle.plan_csv.specs.declared.bad_plan.BadPlan.{BadPlan}
use Rattle.cert_log.specs.declared.bad_cert.BadCert.{BadCert}
use Rattle.cert_log.specs.declared.bad_cert.BadCert.TheVariants as bad
use Rattle.cert_log.specs.declared.certificate.Certificate.{Certificate}
use Rattle.cert_log.specs.Good.{IsGood}
use Rattle.cert_log.specs.Outcomes.{IsReading}
use Rattle.cert_log.specs.Texts.{cert_text, loss_text}
use Rattle.cert_check.specs.declared.verdict.Why.{Why}
use Rattle.cert_check.specs.Causes.{IsReasoned}
use Rattle.cert_check.specs.Faults.{IsFirstFault, SaysWrong}
use Rattle.run_frame.specs.Answers.{Answer, Refused, bad_input, only_lines, refusal}
use Rattle.run_frame.specs.declared.refusals.Refusal.{Refusal}
use Rattle.run_plans.specs.Judgements.{IsFirstBroken, PlanRefused, unlawful}
use Rattle.run_checks.specs.Said.{IsPlanIn, SayBoth}
use Rattle.run_frame.specs.Texts.{limit_of}
use Rattle.run_frame.specs.declared.status.Status.TheVariants as status

-- the ranges of the box that holds every lawful plan
abbrev pub root_ranges : Problem → List Ranges
root_ranges b = (root_of (frame_of b) 0).ranges

-- a word and two values
abbrev pub word_with : List ℕ → List ℕ → List ℕ → List ℕ
word_with word x y = word ++ codes " " ++ x ++ codes " " ++ y

-- which check failed, by its word, and the two values of it
abbrev pub why_text : Why → List ℕ
why_text (Why.WrongLoss said found) = word_with (codes "wrongloss") (loss_text said) (loss_text found)
why_text (Why.Split step v) = word_with (codes "split") (decimal step) (decimal (var_number v))
why_text (Why.NotClosed bound loss) = word_with (codes "notclosed") (decimal bound) (loss_text loss)
why_text (Why.WrongCause said found) = word_with (codes "wrongcause") (decimal said) (decimal found)
why_text (Why.WrongOpen said found) = word_with (codes "wrongopen") (decimal said) (decimal found)
why_text (Why.WrongBound said found) = word_with (codes "wrongbound") (loss_text said) (loss_text found)
why_text (Why.WrongFloor said found) = word_with (codes "wrongfloor") (decimal said) (decimal found)

abbrev pub refused_line : ℕ → Why → List ℕ
refused_line line why = codes "refused line " ++ decimal line ++ codes " " ++ why_text why ++ codes "\n"

-- the first check that a certificate fails, and the line of its text
abbrev pub refused : ℕ → Why → Answer
refused line why = only_lines status.Refused (refused_line line why)

-- the floor of a certificate was not shown, but a lesser one
abbrev pub NotShown : Certificate → Answer → Type 0
NotShown c answer = (found : ℕ) × (found < c.floor) × (answer ≡ refused 1 (Why.WrongFloor c.floor found))

-- the bound of a certificate and its number of open boxes, behind a word
abbrev pub bound_line : List ℕ → Certificate → List ℕ
bound_line word c = word ++ codes " bound " ++ loss_text c.bound ++ codes " open " ++ decimal c.left ++ codes "\n"

abbrev pub accepted : Certificate → Answer
accepted c = only_lines status.Done (bound_line (codes "accepted") c)

-- a certificate is stored under a name
abbrev pub converted : List ℕ → Certificate → Answer
converted name c = record {
  status = status.Done;
  stores = record { name = name; bytes = cert_text c } ∷ [];
  lines = bound_line (codes "converted") c;
}

-- the answer where a text that would be stored has more bytes than one of its role that is read: nothing is stored
abbrev pub too_long_to_store : Role → List ℕ → Answer
too_long_to_store of text = bad_input of 18 (length text) (limit_of of)

-- the refusals of a text that is no certificate
abbrev pub cert_refusal : BadCert → Option Refusal
cert_refusal bad.Memory = None
cert_refusal bad.Head = refusal role.Cert 30 1 0
cert_refusal (bad.Line line) = refusal role.Cert 31 line 0
cert_refusal (bad.Short lines) = refusal role.Cert 32 lines 0
cert_refusal (bad.Trailing line) = refusal role.Cert 33 line 0

-- the answer to a text that is no certificate
abbrev pub CertRefused : BadCert → Answer → Type 0
CertRefused reason answer = Refused (cert_refusal reason) answer

-- the text of the plan is refused
abbrev pub RefusesPlan : Problem → Option (List ℕ) → BadPlan → Type 0
RefusesPlan b None reason = ⊥
RefusesPlan b (Some text) reason = plan_said b text ≡ Err reason

-- a plan is lawful, if there is one
abbrev pub IsLawfulToo : Problem → Option Forest → Type 0
IsLawfulToo b None = Unit {0}
IsLawfulToo b (Some plan) = IsLawful b plan

-- a text says this lawful plan, or there is neither
pub record IsLawfulPlanIn (b : Problem) (text : Option (List ℕ)) (plan : Option Forest) : Type 0 where
  pub said : IsPlanIn b text plan
  pub lawful : IsLawfulToo b plan

-- the answer where it is not so: the text is refused, or the plan breaks a rule
pub data NoLawfulPlan (b : Problem) (text : Option (List ℕ)) (answer : Answer) : Type 0 where
  bad_text : (reason : BadPlan) → RefusesPlan b text reason → PlanRefused reason answer → NoLawfulPlan b text answer
  unlawful_plan : (plan : Forest) (broken : Broken) → IsPlanIn b text (Some plan) → ¬ IsLawful b plan → IsFirstBroken b plan broken → answer ≡ unlawful broken → NoLawfulPlan b text answer

-- a plan fits, if there is one
abbrev pub FitsToo : Option Plan → Type 0
FitsToo None = Unit {0}
FitsToo (Some plan) = Fits (tree plan)

-- its loss, if there is one
abbrev pub loss_in : Problem → Option Forest → Option ℕ
loss_in b None = None
loss_in b (Some plan) = Some (loss_of b plan)

-- the plan is lawful, if there is one, and the certificate is right for the box of all plans and for the plan's loss
pub record IsAccepted (b : Problem) (plan_text : Option (List ℕ)) (cert_text : List ℕ) (plan : Option Forest) (c : Certificate) : Type 0 where
  pub said : SayBoth b plan_text cert_text plan c
  pub lawful : IsLawfulToo b plan
  pub good : IsGood b (root_ranges b) (loss_in b plan) c

-- the answer where it is not so: to the first that fails, in the order of this list
pub data NotAccepted (b : Problem) (plan_text : Option (List ℕ)) (cert_text : List ℕ) (answer : Answer) : Type 0 where
  bad_plan : (reason : BadPlan) → RefusesPlan b plan_text reason → PlanRefused reason answer → NotAccepted b plan_text cert_text answer
  bad_cert : (plan : Option Forest) (reason : BadCert) → IsPlanIn b plan_text plan → IsReading cert_text (Err reason) → CertRefused reason answer →
      NotAccepted b plan_text cert_text answer
  broken_plan : (plan : Forest) (c : Certificate) (broken : Broken) → SayBoth b plan_text cert_text (Some plan) c → ¬ IsLawful b plan → IsFirstBroken b plan broken →
      answer ≡ unlawful broken → NotAccepted b plan_text cert_text answer
  bad_tree : (plan : Option Forest) (c : Certificate) (line : ℕ) (why : Why) → SayBoth b plan_text cert_text plan c → IsLawfulToo b plan →
      SaysWrong b (root_ranges b) (loss_in b plan) c why → IsFirstFault b (root_ranges b) (loss_in b plan) c line why → answer ≡ refused line why →
      NotAccepted b plan_text cert_text answer

-- the answer of `verify`
abbrev pub Verifies : Problem → Option (List ℕ) → List ℕ → Answer → Type 0
Verifies b plan_text cert_text answer =
    ((plan : Option Forest) × (c : Certificate) × IsAccepted b plan_text cert_text plan c × (answer ≡ accepted c)) ⊎ NotAccepted b plan_text cert_text answer

-- the certificate of version 2, or of the same later one, that names the causes of another one, and is right as that is
pub record IsConverted (b : Problem) (c d : Certificate) : Type 0 where
  pub reasoned : IsReasoned b (root_ranges b) c d
  pub good : IsGood b (root_ranges b) c.loss d

-- a certificate is stored under this name, if it can be read again
abbrev pub converted_if_short : List ℕ → Certificate → Answer
converted_if_short name d = if nat_le (length (cert_text d)) (limit_of role.Cert) then converted name d else too_long_to_store role.Cert (cert_text d)

-- the answer of `convert`: such a certificate is stored under this name, if it can be read again
abbrev pub Converts : Problem → Option (List ℕ) → List ℕ → List ℕ → Answer → Type 0
Converts b plan_text cert_text name answer =
    ((plan : Option Forest) × (c : Certificate) × (d : Certificate) × IsAccepted b plan_text cert_text plan c × IsConverted b c d × (answer ≡ converted_if_short name d))
    ⊎ NotAccepted b plan_text cert_text answer
