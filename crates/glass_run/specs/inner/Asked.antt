-- What a command comes to without a search.
use Rattle.glass_io.specs.Told.{Contents}
use Rattle.command_line.specs.Grammar.{Line, stored_as}
use Rattle.glass_run.specs.declared.answering.Asked.{Asked}
use Rattle.glass_run.specs.declared.answering.Asked.TheVariants as asked
use Rattle.run_frame.specs.Answers.{Answer}
use Rattle.glass_run.specs.Commands.{Answers, AnswersInstance, AnswersTexts, Searches}
use Rattle.run_frame.specs.Texts.{Texts}
use Rattle.run_frame.specs.Forms.{answer_in, texts_in}

-- only a command that searches asks for a search
abbrev pub MaySearch : Line → Asked → Type 0
MaySearch line (asked.Reply reply) = Unit {0}
MaySearch line (asked.Search grounded texts) = Searches line.verb

-- its reply is a right answer; or what answers the instance is one
abbrev pub IsAskedFor : (Answer → Type 0) → Line → Asked → Type 0
IsAskedFor IsRight line (asked.Reply reply) = IsRight (answer_in (stored_as line) reply)
IsAskedFor IsRight line (asked.Search grounded texts) = (answer : Answer) → AnswersInstance line.verb line (texts_in texts.items) grounded.instance answer → IsRight answer

-- it comes to this with these texts
abbrev pub IsAsked : Line → Texts → Asked → Type 0
IsAsked line texts what = IsAskedFor (AnswersTexts line texts) line what

-- and with what the files hold
abbrev pub IsAskedOf : Contents → Line → Asked → Type 0
IsAskedOf contents line what = IsAskedFor (Answers contents line) line what
