-- What is told of what is not accepted is the answer of a check.
use Rattle.std.proofs.Common.{◌≡◌, ℕ, List, inl, inr, subst, sym, Option, Some, None}
use Rattle.glass_base.specs.Problem.{Problem}
use Rattle.cut_model.specs.Tree.{Forest}
use Rattle.cert_log.specs.declared.certificate.Certificate.{Certificate}
use Rattle.cert_check.specs.declared.verdict.Why.{Why}
use Rattle.cert_check.specs.Faults.{IsFirstFault, SaysWrong}
use Rattle.run_frame.specs.Answers.{Answer}
use Rattle.run_checks.specs.Checks.{Converts, IsConverted, IsLawfulToo, NoLawfulPlan, NotAccepted, Verifies, converted_if_short, loss_in, refused, root_ranges}
use Rattle.run_checks.specs.Checks.NotAccepted.{bad_cert as bad_certificate, bad_plan, bad_tree, broken_plan}
use Rattle.run_checks.specs.Checks.NoLawfulPlan.{bad_text, unlawful_plan}
use Rattle.run_plans.specs.Judgements.{TellsBreach, TellsNoPlan}
use Rattle.run_checks.specs.Said.{IsPlanIn, SayBoth}
use Rattle.run_checks.specs.inner.Checked.{IsAcceptedFor, IsUnlawful, IsWrong, RefusesCertText, RefusesPlanText}
use Rattle.run_frame.specs.Forms.{OnTold, Tells}
use Rattle.run_frame.specs.declared.notices.Stop.{Stop}
use Rattle.run_frame.specs.declared.notices.Stop.TheVariants as stop

pub told_more : (P Q : Answer → Type 0) (s : Stop) → ((answer : Answer) → P answer → Q answer) → OnTold P s → OnTold Q s
told_more P Q stop.Memory more h = tt
told_more P Q (stop.Told notice) more h = more _ h

-- what holds of what is told holds of the answer that tells it
pub told_is : (P : Answer → Type 0) (s : Stop) (answer : Answer) → OnTold P s → Tells s answer → P answer
told_is P stop.Memory answer h is = absurd is
told_is P (stop.Told notice) answer h is = subst P (sym is) h

pub plan_not_accepted : (b : Problem) (plan_text : Option (List ℕ)) (text : List ℕ) (s : Stop) → OnTold (RefusesPlanText b plan_text) s → OnTold (NotAccepted b plan_text text) s
plan_not_accepted b None text s told = told_more (RefusesPlanText b None) (NotAccepted b None text) s (λ answer h. absurd h) told
plan_not_accepted b (Some plan_text) text s told = told_more (TellsNoPlan b plan_text) (NotAccepted b (Some plan_text) text) s (λ answer h. bad_plan h.0 h.1 h.2) told

pub cert_not_accepted : (b : Problem) (plan_text : Option (List ℕ)) (text : List ℕ) (plan : Option Forest) (s : Stop) → IsPlanIn b plan_text plan → OnTold (RefusesCertText text) s →
    OnTold (NotAccepted b plan_text text) s
cert_not_accepted b plan_text text plan s said told =
    told_more (RefusesCertText text) (NotAccepted b plan_text text) s (λ answer h. bad_certificate plan h.0 said h.1 h.2) told

pub broken_not_accepted : (b : Problem) (plan_text : Option (List ℕ)) (text : List ℕ) (plan : Option Forest) (c : Certificate) (s : Stop) → SayBoth b plan_text text plan c →
    OnTold (IsUnlawful b plan) s → OnTold (NotAccepted b plan_text text) s
broken_not_accepted b plan_text text None c s said told =
    told_more (IsUnlawful b None) (NotAccepted b plan_text text) s (λ answer h. absurd h) told
broken_not_accepted b plan_text text (Some plan) c s said told =
    told_more (TellsBreach b plan) (NotAccepted b plan_text text) s (λ answer h. broken_plan plan c h.0 said h.1 h.2 h.3) told

pub wrong_not_accepted : (b : Problem) (plan_text : Option (List ℕ)) (text : List ℕ) (plan : Option Forest) (c : Certificate) (s : Stop) → SayBoth b plan_text text plan c →
    IsLawfulToo b plan → OnTold (IsWrong b (loss_in b plan) c) s → OnTold (NotAccepted b plan_text text) s
wrong_not_accepted b plan_text text plan c s said lawful told =
    told_more (IsWrong b (loss_in b plan) c) (NotAccepted b plan_text text) s (λ answer h. bad_tree plan c h.0 h.1 said lawful h.2 h.3 h.4) told

-- what is told of a text that says no lawful plan
pub text_not_lawful : (b : Problem) (text : Option (List ℕ)) (s : Stop) → OnTold (RefusesPlanText b text) s → OnTold (NoLawfulPlan b text) s
text_not_lawful b None s told = told_more (RefusesPlanText b None) (NoLawfulPlan b None) s (λ answer h. absurd h) told
text_not_lawful b (Some text) s told = told_more (TellsNoPlan b text) (NoLawfulPlan b (Some text)) s (λ answer h. bad_text h.0 h.1 h.2) told

pub plan_not_lawful : (b : Problem) (text : Option (List ℕ)) (plan : Option Forest) (s : Stop) → IsPlanIn b text plan → OnTold (IsUnlawful b plan) s → OnTold (NoLawfulPlan b text) s
plan_not_lawful b text None s said told = told_more (IsUnlawful b None) (NoLawfulPlan b text) s (λ answer h. absurd h) told
plan_not_lawful b text (Some plan) s said told = told_more (TellsBreach b plan) (NoLawfulPlan b text) s (λ answer h. unlawful_plan plan h.0 said h.1 h.2 h.3) told

-- a certificate that fails a check is told of
pub wrong_told : (b : Problem) (loss : Option ℕ) (c : Certificate) (line : ℕ) (why : Why) (s : Stop) → SaysWrong b (root_ranges b) loss c why → IsFirstFault b (root_ranges b) loss c line why →
    OnTold (λ answer. answer ≡ refused line why) s → OnTold (IsWrong b loss c) s
wrong_told b loss c line why s wrong first told = told_more (λ answer. answer ≡ refused line why) (IsWrong b loss c) s (λ answer h. (line, why, wrong, first, h)) told

pub verifies_none : (b : Problem) (plan_text : Option (List ℕ)) (text : List ℕ) (answer : Answer) (s : Stop) → OnTold (NotAccepted b plan_text text) s → Tells s answer →
    Verifies b plan_text text answer
verifies_none b plan_text text answer s refused is = inr (told_is (NotAccepted b plan_text text) s answer refused is)

pub converts_none : (b : Problem) (plan_text : Option (List ℕ)) (text name : List ℕ) (answer : Answer) (s : Stop) → OnTold (NotAccepted b plan_text text) s → Tells s answer →
    Converts b plan_text text name answer
converts_none b plan_text text name answer s refused is = inr (told_is (NotAccepted b plan_text text) s answer refused is)

pub converts : (b : Problem) (plan_text : Option (List ℕ)) (text name : List ℕ) (answer : Answer) (c d : Certificate) → IsAcceptedFor b plan_text text c → IsConverted b c d →
    answer ≡ converted_if_short name d → Converts b plan_text text name answer
converts b plan_text text name answer c d accepts names is = inl (accepts.0, c, d, accepts.1, names, is)
