-- The words of a command line, each by itself: names, numbers and options.
use Rattle.std.specs.Prelude.{◌==◌, ◌&&◌, ◌++◌, ℕ, List, [], ◌∷◌, length, take, drop, count_by, nat_le, Bool, false, not, is_some, if◌then◌else◌, Option, Some, None, codes}
use Rattle.std.specs.List.{list_all, list_any}
use Rattle.std.specs.Option.{option_map_or}
use Rattle.std.specs.Str.{bytes_eq}
use Rattle.glass_base.specs.Digits.{number_within}
use Rattle.glass_base.specs.declared.role.Role.{Role}
use Rattle.glass_base.specs.declared.role.Role.TheVariants as role
use Rattle.glass_base.specs.declared.limits.TheConstants.{MOST_BUDGET, MOST_DEFECTS, MOST_ITEMS, MOST_PLATES}
use Rattle.command_line.specs.declared.kinds.Count.{Count}
use Rattle.command_line.specs.declared.kinds.Count.TheVariants as count
use Rattle.command_line.specs.declared.kinds.Flag.{Flag}
use Rattle.command_line.specs.declared.kinds.Flag.TheVariants as flag
use Rattle.command_line.specs.declared.kinds.Lead.{Lead}
use Rattle.command_line.specs.declared.kinds.Lead.TheVariants as lead
use Rattle.command_line.specs.declared.kinds.LineOption.{LineOption}
use Rattle.command_line.specs.declared.kinds.LineOption.TheVariants as option

-- the word by which lines name a file
abbrev pub role_word : Role → List ℕ
role_word role.Batch = codes "batch"
role_word role.Defects = codes "defects"
role_word role.Params = codes "params"
role_word role.Plan = codes "plan"
role_word role.Cert = codes "cert"
role_word role.Plates = codes "plates"
role_word role.Sheet = codes "sheet"

-- a word is a dash alone
abbrev pub is_dash : List ℕ → Bool
is_dash (a ∷ []) = a == 45
is_dash _ = false

-- a file name is not empty, is not a dash alone, and does not begin with two dashes
abbrev pub is_name : List ℕ → Bool
is_name [] = false
is_name (a ∷ []) = not (a == 45)
is_name (a ∷ b ∷ rest) = not ((a == 45) && (b == 45))

-- the file that a word in the place of a name stands for: a dash stands for none
abbrev pub name_said : List ℕ → Option (List ℕ)
name_said word = if is_dash word then None else Some word

-- what stands before the file name in an option; a plan that a search begins with is one to go on from
abbrev pub option_front : Role → List ℕ
option_front role.Plan = codes "--from="
option_front of = codes "--" ++ role_word of ++ codes "="

-- the file that a word names as an option of this role
abbrev pub option_name : Role → List ℕ → Option (List ℕ)
option_name of word =
    let front = option_front of in
    if bytes_eq (take (length front) word) front && is_name (drop (length front) word) then Some (drop (length front) word) else None

-- a number that a line can set: what stands before it in an option, the least that a line may have, whether it sets one or not, the greatest that can be
-- set, the one where a line sets none, and the file without which it says nothing, if there is one
pub record Setting : Type 0 where
  pub front : List ℕ
  pub least : ℕ
  pub most : ℕ
  pub usual : ℕ
  pub needs : Option Role

-- usually no plates are cut already, and no more work is done than for the usual first plan; the least that can be set is 1
abbrev pub setting_of : Count → Setting
setting_of count.Workers = record { front = codes "--workers="; least = 1; most = 8; usual = 4; needs = None }
setting_of count.Budget = record { front = codes "--budget="; least = 1; most = MOST_BUDGET; usual = 100000; needs = None }
setting_of count.Frozen = record { front = codes "--frozen="; least = 0; most = MOST_PLATES; usual = 0; needs = Some role.Plan }
setting_of count.Effort = record { front = codes "--effort="; least = 0; most = 1000000; usual = 0; needs = None }
setting_of count.Seconds = record { front = codes "--seconds="; least = 0; most = 86400; usual = 0; needs = None }
setting_of count.Checkers = record { front = codes "--workers="; least = 1; most = 8; usual = 1; needs = None }
setting_of count.FrontsLimit = record { front = codes "--fronts-limit="; least = 1; most = 4000000000; usual = 500000000; needs = None }

-- the word of an option that has no value
abbrev pub flag_word : Flag → List ℕ
flag_word flag.Watch = codes "--watch"
flag_word flag.Fronts = codes "--fronts"

-- the least and the greatest number that can stand before the names
abbrev pub lead_range : Lead → ℕ × ℕ
lead_range lead.Start = (0, 4294967295)
lead_range lead.Items = (1, MOST_ITEMS)
lead_range lead.Defects = (0, MOST_DEFECTS)
lead_range lead.Frozen = (1, MOST_PLATES)

-- the number that a word before the names is
abbrev pub lead_value : Lead → List ℕ → Option ℕ
lead_value of word = number_within (lead_range of).0 (lead_range of).1 word

-- the number that a word sets
abbrev pub count_value : Count → List ℕ → Option ℕ
count_value of word =
    let front = (setting_of of).front in
    if bytes_eq (take (length front) word) front then number_within 1 (setting_of of).most (drop (length front) word) else None

-- a word is this option: it names a further file that is read, sets a number, or has no value
abbrev pub is_option : LineOption → List ℕ → Bool
is_option (option.File of) word = is_some (option_name of word)
is_option (option.Number of) word = is_some (count_value of word)
is_option (option.Word of) word = bytes_eq word (flag_word of)

-- a word is one of these options
abbrev pub is_any_of : List LineOption → List ℕ → Bool
is_any_of all word = list_any (λ of. is_option of word) all

-- the words are some of these options, each of them once at the most
abbrev pub are_options : List LineOption → List (List ℕ) → Bool
are_options all words = list_all (is_any_of all) words && list_all (λ of. nat_le (count_by (is_option of) words) 1) all

-- whether a word is this option and names this file
abbrev pub is_option_for : LineOption → List ℕ → List ℕ → Bool
is_option_for (option.File of) name word = option_map_or (λ n. bytes_eq n name) (option_name of word) false
is_option_for _ name word = false

-- whether one of these options names this file
abbrev pub option_names : List LineOption → List ℕ → List ℕ → Bool
option_names all name word = list_any (λ of. is_option_for of name word) all
