-- What a command comes to with the texts that were fetched is what it comes to with what the files hold.
use Rattle.std.proofs.Common.{◌≡◌, IfSome, List, ℕ, Bool, Option, Some, None, sym, subst, inl, inr}
use Rattle.std.specs.Prelude.{Ok}
use Rattle.glass_io.specs.Told.{Contents}
use Rattle.run_frame.specs.Answers.{Answer}
use Rattle.run_checks.specs.Checks.{Converts}
use Rattle.run_checks.specs.FrozenChecks.{VerifiesFrom}
use Rattle.glass_base.specs.declared.role.Role.TheVariants as role
use Rattle.glass_base.specs.Problem.{Problem}
use Rattle.glass_run.specs.Commands.{AnswersInstance, AnswersTexts, HasInstance, HasNoInstance, cert_name, plan_name}
use Rattle.glass_run.specs.declared.answering.Asked.{Asked}
use Rattle.glass_run.specs.declared.answering.Asked.TheVariants as asked
use Rattle.glass_run.specs.inner.Asked.{IsAsked, IsAskedOf}
use Rattle.run_frame.specs.Forms.{OnTold, Tells}
use Rattle.run_frame.specs.declared.notices.Stop.{Stop}
use Rattle.run_frame.specs.declared.notices.Stop.TheVariants as stop
use Rattle.command_line.specs.declared.kinds.Verb.{Verb}
use Rattle.command_line.specs.declared.kinds.Verb.TheVariants as verb
use Rattle.command_line.specs.Grammar.{Line, count_in, files_of, flag_in, stored_as}
use Rattle.command_line.specs.declared.kinds.Product.TheVariants as product
use Rattle.command_line.specs.declared.kinds.Count.TheVariants as count
use Rattle.command_line.specs.declared.kinds.Flag.TheVariants as flag
use Rattle.run_plans.specs.Replays.{ReplaysText}
use Rattle.run_search.specs.Plans.{PlansWithin}
use Rattle.run_search.specs.Resumptions.{Resumes}
use Rattle.run_plans.specs.Sheets.{SheetsText}
use Rattle.run_frame.specs.Texts.{Texts, text_for, text_or_empty, texts_of}

pub with_texts : (told : Option Contents) (line : Line) (texts : Texts) (what : Asked) → IfSome told (λ contents. texts_of contents (files_of line) ≡ Ok texts) → IsAsked line texts what →
    IfSome told (λ contents. IsAskedOf contents line what)
with_texts None line texts what e h = tt
with_texts (Some contents) line texts (asked.Reply reply) e h = rw e h
with_texts (Some contents) line texts (asked.Search instance found) e h = λ answer answers. rw e (h answer answers)

-- the answer of each command to an instance is that of its name
pub answers_as : (of : Verb) (line : Line) (texts : Texts) (b : Problem) (answer : Answer) → line.verb ≡ of → AnswersInstance of line texts b answer → AnswersInstance line.verb line texts b answer
answers_as of line texts b answer e h = subst (λ (v : Verb). AnswersInstance v line texts b answer) (sym e) h

pub verify_answers : (line : Line) (texts : Texts) (b : Problem) (answer : Answer) (plan : Option (List ℕ)) (text : List ℕ) (k : ℕ) → line.verb ≡ verb.Verify → plan ≡ text_for texts role.Plan →
    text ≡ text_or_empty texts role.Cert → k ≡ count_in line count.Frozen → VerifiesFrom k b plan text answer → AnswersInstance line.verb line texts b answer
verify_answers line texts b answer plan text k of is says counts h =
    let cert = text_or_empty texts role.Cert in
    answers_as verb.Verify line texts b answer of
    (subst (λ (n : ℕ). VerifiesFrom n b (text_for texts role.Plan) cert answer) counts
    (subst (λ (p : Option (List ℕ)). VerifiesFrom k b p cert answer) is (subst (λ (t : List ℕ). VerifiesFrom k b plan t answer) says h)))

pub convert_answers : (line : Line) (texts : Texts) (b : Problem) (answer : Answer) (plan : Option (List ℕ)) (text : List ℕ) → line.verb ≡ verb.Convert → plan ≡ text_for texts role.Plan →
    text ≡ text_or_empty texts role.Cert → Converts b plan text (cert_name line) answer → AnswersInstance line.verb line texts b answer
convert_answers line texts b answer plan text of is says h =
    answers_as verb.Convert line texts b answer of
    (subst (λ (p : Option (List ℕ)). Converts b p (text_or_empty texts role.Cert) (cert_name line) answer) is (subst (λ (t : List ℕ). Converts b plan t (cert_name line) answer) says h))

pub resume_answers : (line : Line) (texts : Texts) (b : Problem) (answer : Answer) (plan : Option (List ℕ)) (text : List ℕ) (budget : ℕ) (fronts : Bool) → line.verb ≡ verb.Resume → plan ≡ text_for texts role.Plan →
    text ≡ text_or_empty texts role.Cert → budget ≡ count_in line count.Budget → fronts ≡ flag_in line flag.Fronts → Resumes b plan text budget fronts (plan_name line) (cert_name line) answer → AnswersInstance line.verb line texts b answer
resume_answers line texts b answer plan text budget fronts of is says counts asked h =
    let cert = text_or_empty texts role.Cert in
    answers_as verb.Resume line texts b answer of
    (subst (λ (p : Option (List ℕ)). Resumes b p cert (count_in line count.Budget) (flag_in line flag.Fronts) (plan_name line) (cert_name line) answer) is
    (subst (λ (t : List ℕ). Resumes b plan t (count_in line count.Budget) (flag_in line flag.Fronts) (plan_name line) (cert_name line) answer) says
    (subst (λ (n : ℕ). Resumes b plan text n (flag_in line flag.Fronts) (plan_name line) (cert_name line) answer) counts
    (subst (λ (f : Bool). Resumes b plan text budget f (plan_name line) (cert_name line) answer) asked h))))

-- what is asked of a search for a plan is what its line says
pub plan_answers : (line : Line) (texts : Texts) (b : Problem) (answer : Answer) (text : Option (List ℕ)) (budget : ℕ) (watch fronts : Bool) → text ≡ text_for texts role.Plan → budget ≡ count_in line count.Budget →
    watch ≡ flag_in line flag.Watch → fronts ≡ flag_in line flag.Fronts → PlansWithin b budget watch fronts text (plan_name line) (cert_name line) answer →
    PlansWithin b (count_in line count.Budget) (flag_in line flag.Watch) (flag_in line flag.Fronts) (text_for texts role.Plan) (plan_name line) (cert_name line) answer
plan_answers line texts b answer text budget watch fronts says counts watched asked h =
    subst (λ (t : Option (List ℕ)). PlansWithin b (count_in line count.Budget) (flag_in line flag.Watch) (flag_in line flag.Fronts) t (plan_name line) (cert_name line) answer) says
    (subst (λ (f : Bool). PlansWithin b (count_in line count.Budget) (flag_in line flag.Watch) f text (plan_name line) (cert_name line) answer) asked
    (subst (λ (w : Bool). PlansWithin b (count_in line count.Budget) w fronts text (plan_name line) (cert_name line) answer) watched
    (subst (λ (n : ℕ). PlansWithin b n watch fronts text (plan_name line) (cert_name line) answer) counts h)))

pub sheet_answers : (line : Line) (texts : Texts) (b : Problem) (answer : Answer) (text : List ℕ) → line.verb ≡ verb.Sheet → text ≡ text_or_empty texts role.Plan →
    SheetsText b (stored_as line product.Sheet) text answer → AnswersInstance line.verb line texts b answer
sheet_answers line texts b answer text of says h =
    answers_as verb.Sheet line texts b answer of (subst (λ (t : List ℕ). SheetsText b (stored_as line product.Sheet) t answer) says h)

pub replay_answers : (line : Line) (texts : Texts) (b : Problem) (answer : Answer) (text : List ℕ) → line.verb ≡ verb.Replay → text ≡ text_or_empty texts role.Sheet →
    ReplaysText b text answer → AnswersInstance line.verb line texts b answer
replay_answers line texts b answer text of says h =
    answers_as verb.Replay line texts b answer of (subst (λ (t : List ℕ). ReplaysText b t answer) says h)

-- the answer to the instance of a line
pub said_instance : (line : Line) (texts : Texts) (b : Problem) (answer : Answer) → HasInstance line.verb line texts b → AnswersInstance line.verb line texts b answer → AnswersTexts line texts answer
said_instance line texts b answer is h = inl (b, is, h)

-- the answer where there is none
pub said_none : (line : Line) (texts : Texts) (s : Stop) (answer : Answer) → OnTold (HasNoInstance line.verb texts) s → Tells s answer → AnswersTexts line texts answer
said_none line texts stop.Memory answer refused is = absurd is
said_none line texts (stop.Told notice) answer refused is = inr (subst (λ (a : Answer). HasNoInstance line.verb texts a) (sym is) refused)

-- what is told by files that tell, where more is known of it
pub told_too : (told : Option Contents) (P Q : Contents → Type 0) → IfSome told P → ((contents : Contents) → P contents → Q contents) → IfSome told Q
told_too None P Q h more = tt
told_too (Some contents) P Q h more = more contents h
