-- What the programs tell of themselves: their commands and options, made from the table of commands, and their version.
use Rattle.std.specs.Prelude.{◌≡◌, ◌||◌, ◌++◌, ℕ, List, [], ◌∷◌, map, Bool, true, if◌then◌else◌, Option, Some, None, codes}
use Rattle.std.specs.Fmt.{decimal}
use Rattle.std.specs.List.{flat_map, list_all, list_any}
use Rattle.std.specs.Str.{bytes_eq}
use Rattle.glass_base.specs.Roles.{is_role}
use Rattle.glass_base.specs.declared.role.Role.{Role}
use Rattle.glass_base.specs.declared.role.Role.TheVariants as role
use Rattle.command_line.specs.Rows.{Pattern, limits, pattern_of, picture, sizes, verbs}
use Rattle.command_line.specs.Words.{flag_word, option_front, setting_of}
use Rattle.command_line.specs.declared.kinds.Count.{Count}
use Rattle.command_line.specs.declared.kinds.Count.TheVariants as count
use Rattle.command_line.specs.declared.kinds.Flag.{Flag}
use Rattle.command_line.specs.declared.kinds.Flag.TheVariants as flag
use Rattle.command_line.specs.declared.kinds.Lead.{Lead}
use Rattle.command_line.specs.declared.kinds.Lead.TheVariants as lead
use Rattle.command_line.specs.declared.kinds.LineOption.{LineOption}
use Rattle.command_line.specs.declared.kinds.LineOption.TheVariants as option
use Rattle.command_line.specs.declared.kinds.Product.{Product}
use Rattle.command_line.specs.declared.kinds.Product.TheVariants as product
use Rattle.command_line.specs.declared.kinds.Verb.{Verb}
use Rattle.command_line.specs.declared.kinds.Verb.TheVariants as verb
use Rattle.command_line.specs.declared.questions.Program.{Program}
use Rattle.command_line.specs.declared.questions.Program.TheVariants as program
use Rattle.command_line.specs.declared.questions.Question.{Question}
use Rattle.command_line.specs.declared.questions.Question.TheVariants as question

-- the question that a word asks, if it asks one: for the commands, or for the version
abbrev pub question_said : List ℕ → Option Question
question_said word =
    if bytes_eq word (codes "--help") || bytes_eq word (codes "-h") then Some question.Help
    else if bytes_eq word (codes "--version") then Some question.Version
    else None

-- the question that words are, if they are one: the word stands alone
abbrev pub question_of : List (List ℕ) → Option Question
question_of (word ∷ []) = question_said word
question_of _ = None

-- the names that the line of a command has for its numbers, for the files that it reads, and for those that it stores
abbrev pub lead_name : Lead → List ℕ
lead_name lead.Start = codes "START"
lead_name lead.Items = codes "ITEMS"
lead_name lead.Defects = codes "DEFECTS"
lead_name lead.Frozen = codes "K"

abbrev pub read_name : Role → List ℕ
read_name role.Batch = codes "BATCH"
read_name role.Defects = codes "DEFECTS"
read_name role.Params = codes "PARAMS"
read_name role.Plan = codes "PLAN"
read_name role.Cert = codes "CERT"
read_name role.Plates = codes "PLATES"
read_name role.Sheet = codes "SHEET"

-- a certificate that is stored is the new one, where one is read
abbrev pub cert_name : List Role → List ℕ
cert_name reads = if list_any (λ of. is_role role.Cert of) reads then codes "NEW" else codes "CERT"

abbrev pub stored_name : List Role → Product → List ℕ
stored_name reads product.Certificate = cert_name reads
stored_name reads _ = codes "OUT"

-- what the line of a command says of a number, of a file and of an option
abbrev pub lead_piece : Lead → List ℕ
lead_piece of = codes " " ++ lead_name of

abbrev pub read_piece : Role → List ℕ
read_piece of = codes " " ++ read_name of

abbrev pub stored_piece : List Role → Product → List ℕ
stored_piece reads of = codes " " ++ stored_name reads of

abbrev pub option_text : LineOption → List ℕ
option_text (option.File of) = option_front of ++ codes "FILE"
option_text (option.Number of) = (setting_of of).front ++ codes "N"
option_text (option.Word of) = flag_word of

abbrev pub option_piece : LineOption → List ℕ
option_piece of = codes " [" ++ option_text of ++ codes "]"

-- the line of a row that begins so: its numbers and its files, and behind them in brackets its options
abbrev pub named_line : List ℕ → Pattern → List ℕ
named_line front row = front ++ flat_map lead_piece row.leads ++ flat_map read_piece row.reads ++ flat_map (stored_piece row.reads) row.stores

abbrev pub row_line : List ℕ → Pattern → List ℕ
row_line front row = named_line front row ++ flat_map option_piece row.options

-- the line of a command
abbrev pub line_front : Verb → List ℕ
line_front of = codes "glass " ++ (pattern_of of).word

abbrev pub usage_of : Verb → List ℕ
usage_of of = row_line (line_front of) (pattern_of of)

-- and that of the program that draws, whose one command is not said
abbrev pub picture_usage : List ℕ
picture_usage = row_line (codes "glass-picture") picture

-- what the commands do
abbrev pub verb_about : Verb → List ℕ
verb_about verb.Draft = codes "a first plan, on plates without defects"
verb_about verb.Plan = codes "a plan that loses little, and a certificate of the bound on the loss"
verb_about verb.Gen = codes "the same of an instance that is drawn from numbers"
verb_about verb.Judge = codes "the loss of a plan, or the first rule that it breaks"
verb_about verb.Verify = codes "checks a plan, or a dash in its place, and a certificate"
verb_about verb.Convert = codes "checks them as well, and names the causes in the certificate"
verb_about verb.Resume = codes "checks them as well, and goes on with the search"
verb_about verb.Freeze = codes "plans anew what stands behind the first K plates"
verb_about verb.Sheet = codes "the instructions by which a table cuts a plan"
verb_about verb.Replay = codes "follows such instructions"

abbrev pub picture_about : List ℕ
picture_about = codes "a picture of a plan, with its loss or the first rule that it breaks"

-- what the options do
abbrev pub file_about : Role → List ℕ
file_about role.Params = codes "other sizes of plates and other least sizes of pieces"
file_about role.Plates = codes "plates with widths of their own"
file_about role.Plan = codes "a plan to go on from, so that what is stored loses no more"
file_about _ = codes "another file"

abbrev pub count_about : Count → List ℕ
count_about count.Workers = codes "how many workers search"
count_about count.Budget = codes "how many boxes a search handles at the most"
count_about count.Frozen = codes "how many plates are cut already"
count_about count.Effort = codes "a better first plan, for so many million ticks (300 are ten seconds, and usual above 60 items)"
count_about count.Seconds = codes "a better first plan, until so many seconds are over"
count_about count.Checkers = codes "how many threads show the floor of a certificate, where it is only checked"
count_about count.FrontsLimit = codes "how many labels a search over fronts looks at, to show a floor"

abbrev pub flag_about : Flag → List ℕ
flag_about flag.Watch = codes "tells the losses on the way as well"
flag_about flag.Fronts = codes "begins with what fronts show: mostly optimal, where stacks are few"

-- a line, and indented below it what it is for
abbrev pub entry : List ℕ → List ℕ → List ℕ
entry line about = codes "  " ++ line ++ codes "\n      " ++ about ++ codes "\n"

abbrev pub verb_entry : Verb → List ℕ
verb_entry of = entry (usage_of of) (verb_about of)

abbrev pub picture_entry : List ℕ
picture_entry = entry picture_usage picture_about

-- of a number also which ones can be set, and the one that is set where the option is not there
abbrev pub count_told : Count → List ℕ
count_told of = count_about of ++ codes ": 1 to " ++ decimal (setting_of of).most ++ codes ", usually " ++ decimal (setting_of of).usual

abbrev pub option_about : LineOption → List ℕ
option_about (option.File of) = file_about of
option_about (option.Number of) = count_told of
option_about (option.Word of) = flag_about of

abbrev pub option_entry : LineOption → List ℕ
option_entry of = entry (option_text of) (option_about of)

-- the name of a program, the rows of its commands, and their options
abbrev pub program_name : Program → List ℕ
program_name program.Glass = codes "glass"
program_name program.Picture = codes "glass-picture"

abbrev pub rows_of : Program → List Pattern
rows_of program.Glass = map pattern_of verbs
rows_of program.Picture = picture ∷ []

abbrev pub options_of : Program → List LineOption
options_of program.Glass =
    sizes ++ option.File role.Plan ∷ limits ++ option.Number count.Frozen ∷ option.Number count.Checkers ∷ option.Number count.FrontsLimit ∷ option.Word flag.Watch
    ∷ option.Word flag.Fronts ∷ []
options_of program.Picture = sizes

-- the commands and the options of a program
abbrev pub entries_of : Program → List ℕ
entries_of program.Glass = flat_map verb_entry verbs
entries_of program.Picture = picture_entry

unfoldable pub commands_text : Program → List ℕ
commands_text of = codes "usage:\n" ++ entries_of of

unfoldable pub options_text : Program → List ℕ
options_text of = codes "\noptions, behind the names and in any order:\n" ++ flat_map option_entry (options_of of)

abbrev pub help_text : Program → List ℕ
help_text of = commands_text of ++ options_text of ++ codes "\n--help, -h and --version, alone, tell this and the version\n"

-- the version of a program, and the toolchain that it is proved with
abbrev pub version_line : Program → List ℕ
version_line of = program_name of ++ codes " 1.0 rattle-kit-13f\n"

-- the answer of a program to a question
abbrev pub answer_of : Program → Question → List ℕ
answer_of of question.Help = help_text of
answer_of of question.Version = version_line of

-- each option of each command of a program is told
abbrev pub AreTold : Program → Type 0
AreTold of =
    let is_told : LineOption → Bool = λ x. list_any (λ y. bytes_eq (option_text x) (option_text y)) (options_of of) in
    list_all (λ row. list_all is_told row.options) (rows_of of) ≡ true
