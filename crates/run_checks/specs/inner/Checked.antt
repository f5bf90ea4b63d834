-- The parts of a check of a plan and a certificate.
use Rattle.std.specs.Prelude.{◌≡◌, ◌++◌, ℕ, List, Option, Some, None, Err, codes}
use Rattle.std.specs.Fmt.{decimal}
use Rattle.glass_base.specs.Problem.{Problem}
use Rattle.cut_model.specs.Tree.{Forest}
use Rattle.plan_freeze.specs.Rests.{IsRest}
use Rattle.cert_log.specs.declared.bad_cert.BadCert.{BadCert}
use Rattle.cert_log.specs.declared.certificate.Certificate.{Certificate}
use Rattle.cert_log.specs.Good.{IsGood}
use Rattle.cert_log.specs.Outcomes.{IsReading}
use Rattle.cert_log.specs.Texts.{loss_text}
use Rattle.cert_check.specs.declared.verdict.Why.{Why}
use Rattle.cert_check.specs.Faults.{IsFirstFault, SaysWrong}
use Rattle.run_frame.specs.Answers.{Answer}
use Rattle.run_checks.specs.Checks.{CertRefused, IsAccepted, refused, root_ranges}
use Rattle.run_checks.specs.FrozenChecks.{IsAcceptedBehind, loss_behind}
use Rattle.run_plans.specs.Judgements.{TellsBreach, TellsNoPlan}

-- the answer to the text of a plan that is refused
abbrev pub RefusesPlanText : Problem → Option (List ℕ) → Answer → Type 0
RefusesPlanText b None answer = ⊥
RefusesPlanText b (Some text) answer = TellsNoPlan b text answer

-- the answer to the text of a certificate that is refused
abbrev pub RefusesCertText : List ℕ → Answer → Type 0
RefusesCertText text answer = (reason : BadCert) × IsReading text (Err reason) × CertRefused reason answer

-- the answer to a plan that is not lawful
abbrev pub IsUnlawful : Problem → Option Forest → Answer → Type 0
IsUnlawful b None answer = ⊥
IsUnlawful b (Some plan) answer = TellsBreach b plan answer

-- the answer to a certificate that is not right
abbrev pub IsWrong : Problem → Option ℕ → Certificate → Answer → Type 0
IsWrong b loss c answer = (line : ℕ) × (why : Why) × SaysWrong b (root_ranges b) loss c why × IsFirstFault b (root_ranges b) loss c line why × (answer ≡ refused line why)

-- the certificate is accepted with the plan that the text says, or without one
abbrev pub IsAcceptedFor : Problem → Option (List ℕ) → List ℕ → Certificate → Type 0
IsAcceptedFor b plan_text cert_text c = (plan : Option Forest) × IsAccepted b plan_text cert_text plan c

-- a certificate is right for the instance that is left behind the first plates of a plan, and for what the plan loses there
abbrev pub IsRightBehind : Problem → Forest → ℕ → Certificate → Type 0
IsRightBehind b plan k c = (rest : Problem) × IsRest b plan k rest × IsGood rest (root_ranges rest) (loss_behind rest k plan) c

-- the answer to a certificate that is not
abbrev pub IsWrongBehind : Problem → Forest → ℕ → Certificate → Answer → Type 0
IsWrongBehind b plan k c answer = (rest : Problem) × IsRest b plan k rest × IsWrong rest (loss_behind rest k plan) c answer

-- the certificate is accepted behind the first plates of the plan that the text says
abbrev pub IsAcceptedBehindFor : Problem → ℕ → List ℕ → List ℕ → Forest → Certificate → Type 0
IsAcceptedBehindFor b k plan_text cert_text plan c = (rest : Problem) × IsAcceptedBehind b k plan_text cert_text plan rest c

-- a bound and a number of open boxes, behind a word
abbrev pub line_with_bound : List ℕ → Option ℕ → ℕ → List ℕ
line_with_bound word bound left = word ++ codes " bound " ++ loss_text bound ++ codes " open " ++ decimal left ++ codes "\n"
