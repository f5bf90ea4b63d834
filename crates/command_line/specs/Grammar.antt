-- The command lines: the words of a command, told apart by its row.
use Rattle.std.specs.Prelude.{◌==◌, ◌&&◌, ◌||◌, ◌+◌, ℕ, List, [], ◌∷◌, length, take, drop, find, position, slice_get, count_by, Bool, true, not, is_some, if◌then◌else◌, Option, Some, None, option_map, option_and_then}
use Rattle.std.specs.List.{filter_map, list_all, list_any}
use Rattle.std.specs.Option.{option_map_or, option_or, unwrap_or}
use Rattle.std.specs.Str.{bytes_eq}
use Rattle.glass_base.specs.Roles.{is_role}
use Rattle.glass_base.specs.declared.role.Role.{Role}
use Rattle.command_line.specs.Rows.{Pattern, fetch_order, is_lead, is_product, pattern_of, picture, verbs}
use Rattle.command_line.specs.Words.{are_options, count_value, is_dash, is_name, is_option, lead_range, lead_value, name_said, option_name, option_names, setting_of}
use Rattle.command_line.specs.declared.kinds.Count.{Count}
use Rattle.command_line.specs.declared.kinds.Flag.{Flag}
use Rattle.command_line.specs.declared.kinds.Lead.{Lead}
use Rattle.command_line.specs.declared.kinds.LineOption.{LineOption}
use Rattle.command_line.specs.declared.kinds.LineOption.TheVariants as option
use Rattle.command_line.specs.declared.kinds.Product.{Product}
use Rattle.command_line.specs.declared.kinds.Verb.{Verb}

-- a command line: its command and the row of it, the numbers behind it, the names of files, and its options
pub record LineOf (V : Type 0) : Type 0 where
  pub verb : V
  pub pattern : Pattern
  pub leads : List (List ℕ)
  pub names : List (List ℕ)
  pub options : List (List ℕ)

-- a line of `glass`, and one of the program that draws, whose one command is not said
abbrev pub Line : Type 0
Line = LineOf Verb

abbrev pub PictureLine : Type 0
PictureLine = LineOf (Unit {0})

-- the number of this kind that a line says before its names
abbrev pub lead_at : {V : Type 0} → LineOf V → Lead → Option ℕ
lead_at line of =
    option_and_then (lead_value of) (option_and_then (λ place. slice_get line.leads place) (position (λ other. is_lead of other) line.pattern.leads))

-- whether each number that stands before the names of a command is said, and no other word
abbrev pub are_leads_said : {V : Type 0} → LineOf V → Bool
are_leads_said line =
    let pattern = line.pattern in
    (length line.leads == length pattern.leads) && list_all (λ of. is_some (lead_at line of)) pattern.leads

-- the name of the file of this role, where it is one of the names of a line
abbrev pub name_at : {V : Type 0} → LineOf V → Role → Option (List ℕ)
name_at line of =
    option_and_then name_said (option_and_then (λ place. slice_get line.names place) (position (λ other. is_role of other) line.pattern.reads))

-- whether a line names the file of this role that its command reads, or its command can do without
abbrev pub is_read_named : {V : Type 0} → LineOf V → Role → Bool
is_read_named line of = is_some (name_at line of) || list_any (λ other. is_role of other) line.pattern.without

-- whether a line names the file without which an option says nothing, where it has the option
abbrev pub is_served : {V : Type 0} → LineOf V → LineOption → Bool
is_served line (option.Number of) = not (list_any (is_option (option.Number of)) line.options) || option_map_or (λ needed. is_some (name_at line needed)) (setting_of of).needs true
is_served line _ = true

-- the names under which a line stores
abbrev pub stored_names : {V : Type 0} → LineOf V → List (List ℕ)
stored_names line = drop (length line.pattern.reads) line.names

-- the name under which a line stores this; it is empty where its command does not store it
abbrev pub stored_as : {V : Type 0} → LineOf V → Product → List ℕ
stored_as line of = unwrap_or (option_and_then (λ place. slice_get (stored_names line) place) (position (λ other. is_product of other) line.pattern.stores)) []

-- whether a line names a file once
abbrev pub is_named_once : {V : Type 0} → LineOf V → List ℕ → Bool
is_named_once line name =
    (count_by (λ n. bytes_eq n name) line.names + count_by (option_names line.pattern.options name) line.options) == 1

-- whether the names are those of the line's command
abbrev pub are_files_named : {V : Type 0} → LineOf V → Bool
are_files_named line =
    let pattern = line.pattern in
    (length line.names == length pattern.reads + length pattern.stores) && list_all (λ word. is_name word || is_dash word) line.names
    && list_all (is_read_named line) pattern.reads && list_all is_name (stored_names line)

-- whether the numbers, names and options are those of the line's command; a number that says nothing without a file comes with this file; a
-- name that is stored differs from all other names
abbrev pub is_line : {V : Type 0} → LineOf V → Bool
is_line line =
    are_leads_said line && are_files_named line && are_options line.pattern.options line.options
    && list_all (is_served line) line.pattern.options && list_all (is_named_once line) (stored_names line)

-- the words behind a command's own, as its numbers, its names and its options
abbrev pub line_with : {V : Type 0} → V → Pattern → List (List ℕ) → LineOf V
line_with of pattern words =
    let numbers = length pattern.leads in
    let many = length pattern.reads + length pattern.stores in
    let behind = drop numbers words in
    record { verb = of; pattern = pattern; leads = take numbers words; names = take many behind; options = drop many behind }

abbrev pub line_if : {V : Type 0} → LineOf V → Option (LineOf V)
line_if line = if is_line line then Some line else None

-- the command of this word
abbrev pub verb_of : List ℕ → Option Verb
verb_of word = find (λ of. bytes_eq word (pattern_of of).word) verbs

-- the command line that words are, if they are one
abbrev pub line_of : List (List ℕ) → Option Line
line_of [] = None
line_of (word ∷ words) = option_and_then (λ of. line_if (line_with of (pattern_of of) words)) (verb_of word)

-- the line of the program that draws, if the words are one
abbrev pub picture_line_of : List (List ℕ) → Option PictureLine
picture_line_of words = line_if (line_with tt picture words)

-- the name of the file of this role, where an option names it
abbrev pub name_by_option : {V : Type 0} → LineOf V → Role → Option (List ℕ)
name_by_option line of = option_and_then (option_name of) (find (is_option (option.File of)) line.options)

-- the name of the file of this role, if the line names it
abbrev pub name_of : {V : Type 0} → LineOf V → Role → Option (List ℕ)
name_of line of = option_or (name_at line of) (name_by_option line of)

-- the number that a line sets, or the usual one
abbrev pub count_in : {V : Type 0} → LineOf V → Count → ℕ
count_in line of = unwrap_or (option_and_then (count_value of) (find (is_option (option.Number of)) line.options)) (setting_of of).usual

-- whether a line has this option without a value
abbrev pub flag_in : {V : Type 0} → LineOf V → Flag → Bool
flag_in line of = list_any (is_option (option.Word of)) line.options

-- the number of this kind that stands before a line's names
abbrev pub lead_in : {V : Type 0} → LineOf V → Lead → ℕ
lead_in line of = unwrap_or (lead_at line of) (lead_range of).0

-- the file of this role with its name, if the line names it
abbrev pub file_of : {V : Type 0} → LineOf V → Role → Option (Role × List ℕ)
file_of line of = option_map (λ name. (of, name)) (name_of line of)

-- the files that a line reads, each by its role and its name, in the order in which they are fetched
abbrev pub files_of : {V : Type 0} → LineOf V → List (Role × List ℕ)
files_of line = filter_map (file_of line) fetch_order
