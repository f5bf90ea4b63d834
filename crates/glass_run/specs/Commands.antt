-- What each command answers to what stands under the names of its files.
use Rattle.std.specs.Prelude.{◌⊎◌, ℕ, List, Option, None}
use Rattle.glass_base.specs.Problem.{Problem}
use Rattle.glass_base.specs.declared.role.Role.TheVariants as role
use Rattle.glass_io.specs.Told.{Contents}
use Rattle.command_line.specs.declared.kinds.Count.TheVariants as count
use Rattle.command_line.specs.declared.kinds.Flag.TheVariants as flag
use Rattle.glass_gen.specs.Drawn.{IsDrawn}
use Rattle.command_line.specs.declared.kinds.Lead.TheVariants as lead
use Rattle.command_line.specs.declared.kinds.Product.TheVariants as product
use Rattle.command_line.specs.declared.kinds.Verb.{Verb}
use Rattle.command_line.specs.declared.kinds.Verb.TheVariants as verb
use Rattle.run_frame.specs.Answers.{Answer}
use Rattle.run_checks.specs.Checks.{Converts}
use Rattle.run_plans.specs.Drafts.{Drafts}
use Rattle.run_search.specs.Freezes.{FreezesWithin}
use Rattle.run_checks.specs.FrozenChecks.{VerifiesFrom}
use Rattle.command_line.specs.Grammar.{Line, files_of, flag_in, count_in, lead_in, stored_as}
use Rattle.run_plans.specs.Instances.{InstanceRefused, IsInstanceOf}
use Rattle.run_plans.specs.Judgements.{JudgesText}
use Rattle.run_search.specs.Plans.{PlansWithin}
use Rattle.run_plans.specs.Replays.{ReplaysText}
use Rattle.run_search.specs.Resumptions.{Resumes}
use Rattle.run_plans.specs.Sheets.{SheetsText}
use Rattle.run_frame.specs.Texts.{AnswersFetched, Texts, text_for, text_or_empty, texts_of}

-- the names under which a line stores a plan and a certificate
abbrev pub plan_name : Line → List ℕ
plan_name line = stored_as line product.Plan

abbrev pub cert_name : Line → List ℕ
cert_name line = stored_as line product.Certificate

-- the answer of each command to its instance
abbrev pub AnswersInstance : Verb → Line → Texts → Problem → Answer → Type 0
AnswersInstance verb.Draft line texts b answer = Drafts b (plan_name line) answer
AnswersInstance verb.Plan line texts b answer =
    PlansWithin b (count_in line count.Budget) (flag_in line flag.Watch) (flag_in line flag.Fronts) (text_for texts role.Plan) (plan_name line) (cert_name line) answer
AnswersInstance verb.Gen line texts b answer =
    PlansWithin b (count_in line count.Budget) (flag_in line flag.Watch) (flag_in line flag.Fronts) (text_for texts role.Plan) (plan_name line) (cert_name line) answer
AnswersInstance verb.Judge line texts b answer = JudgesText b (text_or_empty texts role.Plan) answer
AnswersInstance verb.Verify line texts b answer = VerifiesFrom (count_in line count.Frozen) b (text_for texts role.Plan) (text_or_empty texts role.Cert) answer
AnswersInstance verb.Convert line texts b answer = Converts b (text_for texts role.Plan) (text_or_empty texts role.Cert) (cert_name line) answer
AnswersInstance verb.Resume line texts b answer =
    Resumes b (text_for texts role.Plan) (text_or_empty texts role.Cert) (count_in line count.Budget) (flag_in line flag.Fronts) (plan_name line) (cert_name line) answer
AnswersInstance verb.Freeze line texts b answer =
    FreezesWithin b (lead_in line lead.Frozen) (count_in line count.Budget) (flag_in line flag.Fronts) (text_or_empty texts role.Plan) (plan_name line) (cert_name line) answer
AnswersInstance verb.Sheet line texts b answer = SheetsText b (stored_as line product.Sheet) (text_or_empty texts role.Plan) answer
AnswersInstance verb.Replay line texts b answer = ReplaysText b (text_or_empty texts role.Sheet) answer

-- the command searches
abbrev pub Searches : Verb → Type 0
Searches verb.Plan = Unit {0}
Searches verb.Gen = Unit {0}
Searches verb.Resume = Unit {0}
Searches verb.Freeze = Unit {0}
Searches _ = ⊥

-- the text of the defects that each command plans with; a draft is made on plates without defects
abbrev pub flaws_of : Verb → Texts → Option (List ℕ)
flaws_of verb.Draft texts = None
flaws_of _ texts = text_for texts role.Defects

-- the instance of each command: the one that its texts say; `gen` has the one that its numbers give
abbrev pub HasInstance : Verb → Line → Texts → Problem → Type 0
HasInstance verb.Gen line texts b = IsDrawn b (lead_in line lead.Start) (lead_in line lead.Items) (lead_in line lead.Defects)
HasInstance of line texts b = IsInstanceOf texts (flaws_of of texts) b

-- the answer of each command where its texts say no instance
abbrev pub HasNoInstance : Verb → Texts → Answer → Type 0
HasNoInstance verb.Gen texts answer = ⊥
HasNoInstance of texts answer = InstanceRefused texts (flaws_of of texts) answer

-- the answer of a command to its texts
abbrev pub AnswersTexts : Line → Texts → Answer → Type 0
AnswersTexts line texts answer =
    ((b : Problem) × HasInstance line.verb line texts b × AnswersInstance line.verb line texts b answer) ⊎ HasNoInstance line.verb texts answer

-- the answer of a command to what stands under the names: all files are fetched, in their order, before one is read
abbrev pub Answers : Contents → Line → Answer → Type 0
Answers contents line answer = AnswersFetched (AnswersTexts line) (texts_of contents (files_of line)) answer
