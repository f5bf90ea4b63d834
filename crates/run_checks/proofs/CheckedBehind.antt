-- What is told of what is not accepted behind first plates is the answer of a check.
use Rattle.std.proofs.Common.{◌≡◌, ◌≢◌, ◌<◌, ℕ, zero, suc, List, [], refl, sym, ap, subst, ◌∙◌, inl, inr, Option, Some}
use Rattle.std.specs.Prelude.{MatchResult, Result, Ok, Err, unwrap_or}
use Rattle.glass_base.specs.Problem.{Problem}
use Rattle.cut_model.specs.Lawful.{IsLawful}
use Rattle.cut_model.specs.Loss.{loss_of}
use Rattle.cut_model.specs.Tree.{Forest, neighbour_count}
use Rattle.plan_csv.specs.PlanTexts.{plan_said}
use Rattle.plan_freeze.specs.Frozen.{later_plates}
use Rattle.plan_freeze.specs.Rests.{IsRest, frozen_loss}
use Rattle.cert_log.specs.declared.certificate.Certificate.{Certificate}
use Rattle.cert_log.specs.Good.{IsGood}
use Rattle.run_frame.specs.Answers.{Answer}
use Rattle.run_checks.specs.Checks.{Verifies, accepted, root_ranges}
use Rattle.run_checks.specs.FrozenChecks.{LeavesNone, NotAcceptedBehind, VerifiesBehind, VerifiesFrom, loss_behind, raised}
use Rattle.run_checks.specs.FrozenChecks.NotAcceptedBehind.{bad_cert, bad_plan, bad_tree, broken_plan, none_left}
use Rattle.run_checks.specs.Said.{SayBoth}
use Rattle.run_checks.specs.inner.Checked.{IsAcceptedBehindFor, IsRightBehind, IsWrong, IsWrongBehind, RefusesCertText}
use Rattle.run_plans.specs.Judgements.{TellsBreach, TellsNoPlan}
use Rattle.run_frame.specs.Forms.{OnTold, Tells}
use Rattle.run_frame.specs.declared.notices.Stop.{Stop}
use Rattle.run_checks.proofs.Accepting.{told_is, told_more}

module _ (b : Problem) (k : ℕ) (plan_text text : List ℕ) (s : Stop) where
  pub plan_not_accepted : OnTold (TellsNoPlan b plan_text) s → OnTold (NotAcceptedBehind b k plan_text text) s
  plan_not_accepted told = told_more (TellsNoPlan b plan_text) (NotAcceptedBehind b k plan_text text) s (λ answer h. bad_plan h.0 h.1 h.2) told

  pub cert_not_accepted : (plan : Forest) → plan_said b plan_text ≡ Ok plan → OnTold (RefusesCertText text) s → OnTold (NotAcceptedBehind b k plan_text text) s
  cert_not_accepted plan said told =
      told_more (RefusesCertText text) (NotAcceptedBehind b k plan_text text) s (λ answer h. bad_cert plan h.0 said h.1 h.2) told

  pub broken_not_accepted : (plan : Forest) (c : Certificate) → SayBoth b (Some plan_text) text (Some plan) c → OnTold (TellsBreach b plan) s → OnTold (NotAcceptedBehind b k plan_text text) s
  broken_not_accepted plan c said told =
      told_more (TellsBreach b plan) (NotAcceptedBehind b k plan_text text) s (λ answer h. broken_plan plan c h.0 said h.1 h.2 h.3) told

  pub none_not_accepted : (plan : Forest) (c : Certificate) → SayBoth b (Some plan_text) text (Some plan) c → IsLawful b plan → OnTold (LeavesNone plan k) s → OnTold (NotAcceptedBehind b k plan_text text) s
  none_not_accepted plan c said lawful told =
      told_more (LeavesNone plan k) (NotAcceptedBehind b k plan_text text) s (λ answer h. none_left plan c said lawful h.0 h.1) told

  pub wrong_not_accepted : (plan : Forest) (c : Certificate) → SayBoth b (Some plan_text) text (Some plan) c → IsLawful b plan → k < neighbour_count plan → OnTold (IsWrongBehind b plan k c) s →
      OnTold (NotAcceptedBehind b k plan_text text) s
  wrong_not_accepted plan c said lawful fewer told =
      told_more (IsWrongBehind b plan k c) (NotAcceptedBehind b k plan_text text) s
      (λ answer h. bad_tree plan h.0 c h.2.0 h.2.1 said lawful fewer h.1 h.2.2 h.2.3 h.2.4) told

-- what a check of a certificate for the instance that is left says of it behind the first plates
pub checked_behind : {X : Type 0} (b rest : Problem) (plan tail : Forest) (k loss : ℕ) (c : Certificate) (r : Result X Stop) → IsRest b plan k rest → tail ≡ later_plates k plan → loss ≡ loss_of rest tail →
    MatchResult r (λ _. IsGood rest (root_ranges rest) (Some loss) c) (OnTold (IsWrong rest (Some loss) c)) → MatchResult r (λ _. IsRightBehind b plan k c) (OnTold (IsWrongBehind b plan k c))
checked_behind {X} b rest plan tail k loss c r is later loses h = by r h
  where
    same : Some loss ≡ loss_behind rest k plan
    same = ap Some (loses ∙ ap (loss_of rest) later)

    by : (r : Result X Stop) → MatchResult r (λ _. IsGood rest (root_ranges rest) (Some loss) c) (OnTold (IsWrong rest (Some loss) c)) → MatchResult r (λ _. IsRightBehind b plan k c) (OnTold (IsWrongBehind b plan k c))
    by (Ok x) good = (rest, is, subst (λ (o : Option ℕ). IsGood rest (root_ranges rest) o c) same good)
    by (Err s) told = told_more (IsWrong rest (Some loss) c) (IsWrongBehind b plan k c) s (λ answer wrong. (rest, is, subst (λ (o : Option ℕ). IsWrong rest o c answer) same wrong)) told

-- a certificate that is right behind first plates is accepted with the plan
pub accepts_behind : (b : Problem) (k : ℕ) (plan_text text : List ℕ) (plan : Forest) (c : Certificate) → SayBoth b (Some plan_text) text (Some plan) c → IsLawful b plan → k < neighbour_count plan → IsRightBehind b plan k c →
    IsAcceptedBehindFor b k plan_text text plan c
accepts_behind b k plan_text text plan c said lawful fewer right =
    (right.0, record { said = said; lawful = lawful; fewer = fewer; rest_is = right.1; good = right.2 })

pub verifies_behind : (b : Problem) (k more : ℕ) (plan_text text : List ℕ) (plan : Forest) (c : Certificate) (answer told : Answer) → IsAcceptedBehindFor b k plan_text text plan c → more ≡ frozen_loss b plan k → answer ≡ told →
    told ≡ accepted (raised more c) → VerifiesBehind b k plan_text text answer
verifies_behind b k more plan_text text plan c answer told accepts loses is tells =
    inl (plan, accepts.0, c, accepts.1, is ∙ tells ∙ ap (λ (n : ℕ). accepted (raised n c)) loses)

pub verifies_none : (b : Problem) (k : ℕ) (plan_text text : List ℕ) (answer : Answer) (s : Stop) → OnTold (NotAcceptedBehind b k plan_text text) s → Tells s answer → VerifiesBehind b k plan_text text answer
verifies_none b k plan_text text answer s refused is = inr (told_is (NotAcceptedBehind b k plan_text text) s answer refused is)

-- the answer where no plate is cut already, and where some are
pub verifies_all : (k : ℕ) (b : Problem) (plan_text : Option (List ℕ)) (text : List ℕ) (answer : Answer) → k ≡ 0 → Verifies b plan_text text answer → VerifiesFrom k b plan_text text answer
verifies_all k b plan_text text answer none h = subst (λ (n : ℕ). VerifiesFrom n b plan_text text answer) (sym none) h

pub verifies_later : (k : ℕ) (b : Problem) (plan_text : Option (List ℕ)) (bytes text : List ℕ) (answer : Answer) → k ≢ 0 → bytes ≡ unwrap_or plan_text [] → VerifiesBehind b k bytes text answer → VerifiesFrom k b plan_text text answer
verifies_later zero b plan_text bytes text answer some is h = absurd (some refl)
verifies_later (suc k) b plan_text bytes text answer some is h = subst (λ (l : List ℕ). VerifiesBehind b (suc k) l text answer) is h
