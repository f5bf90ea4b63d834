-- What a check answers where all is right.
use Rattle.std.specs.Prelude.{◌≡◌, ◌⊎◌, ◌<◌, ◌^◌, ℕ, List, length, Option}
use Rattle.glass_base.specs.Problem.{Problem, IsProblem}
use Rattle.cut_model.specs.Tree.{Forest}
use Rattle.plan_freeze.specs.Rests.{frozen_loss}
use Rattle.plan_box.specs.Ranges.{Ranges}
use Rattle.cert_log.specs.declared.certificate.Certificate.{Certificate}
use Rattle.cert_log.specs.Good.{IsGood}
use Rattle.cert_check.specs.declared.verdict.Verdict.{Verdict}
use Rattle.cert_check.specs.declared.verdict.Why.{Why}
use Rattle.cert_check.specs.Faults.{Answers}
use Rattle.run_frame.specs.Answers.{Answer}
use Rattle.run_checks.specs.Checks.{IsAccepted, NotShown, Verifies, accepted}
use Rattle.run_checks.specs.FrozenChecks.{IsAcceptedBehind, VerifiesBehind, raised}

-- a check of the certificate does not show its floor, but a lesser one
abbrev pub MissesFloor : Certificate → Verdict → Type 0
MissesFloor c verdict = (found : ℕ) × (found < c.floor) × (verdict ≡ Verdict.Refuse 1 (Why.WrongFloor c.floor found))

-- a certificate that is right for a box and a loss is accepted, with its bound and its number of open boxes, or its floor is not shown
abbrev pub RightPasses : Type 0
RightPasses =
    (b : Problem) (rs : List Ranges) (loss : Option ℕ) (c : Certificate) → IsGood b rs loss c → (verdict : Verdict) → Answers b rs loss c verdict
    → (verdict ≡ Verdict.Accept c.bound c.left) ⊎ MissesFloor c verdict

-- texts of a lawful plan, if there is one, and of a certificate that is right for its loss are accepted, with this certificate's bound and number of open
-- boxes, or its floor is not shown
abbrev pub RightIsAccepted : Type 0
RightIsAccepted =
    (b : Problem) (plan_text : Option (List ℕ)) (cert_text : List ℕ) (plan : Option Forest) (c : Certificate) → length cert_text < 2 ^ 63 → IsAccepted b plan_text cert_text plan c
    → (answer : Answer) → Verifies b plan_text cert_text answer → (answer ≡ accepted c) ⊎ NotShown c answer

-- so are those of which the first plates are cut already, with what these lose added to the bound
abbrev pub RightBehindIsAccepted : Type 0
RightBehindIsAccepted =
    (b : Problem) (k : ℕ) (plan_text cert_text : List ℕ) (plan : Forest) (rest : Problem) (c : Certificate) → IsProblem b → length cert_text < 2 ^ 63
    → IsAcceptedBehind b k plan_text cert_text plan rest c → (answer : Answer) → VerifiesBehind b k plan_text cert_text answer
    → (answer ≡ accepted (raised (frozen_loss b plan k) c)) ⊎ NotShown c answer
