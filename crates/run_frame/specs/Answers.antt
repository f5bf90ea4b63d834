-- What a run answers: how it ends, what it stores, and what it prints.
use Rattle.std.specs.Prelude.{◌≡◌, ◌++◌, ℕ, List, [], Option, Some, None, codes}
use Rattle.std.specs.Fmt.{decimal}
use Rattle.glass_base.specs.declared.bad_text.BadText.{BadText}
use Rattle.glass_base.specs.declared.bad_text.BadText.TheVariants as bad_text
use Rattle.glass_base.specs.declared.instance.BadInstance.{BadInstance}
use Rattle.glass_base.specs.declared.instance.BadInstance.TheVariants as bad_instance
use Rattle.glass_base.specs.declared.params.BadParams.{BadParams}
use Rattle.glass_base.specs.declared.params.BadParams.TheVariants as bad_params
use Rattle.glass_base.specs.declared.role.Role.{Role}
use Rattle.glass_base.specs.declared.role.Role.TheVariants as role
use Rattle.run_frame.specs.declared.refusals.Refusal.{Refusal}
use Rattle.run_frame.specs.declared.status.Status.{Status}
use Rattle.run_frame.specs.declared.status.Status.TheVariants as status
use Rattle.command_line.specs.Words.{role_word}

-- a file that is stored
pub record Store : Type 0 where
  pub name : List ℕ
  pub bytes : List ℕ

-- how a run ends, what it stores, one file after another, and what it prints
pub record Answer : Type 0 where
  pub status : Status
  pub stores : List Store
  pub lines : List ℕ

-- an answer that stores nothing and prints these lines
abbrev pub only_lines : Status → List ℕ → Answer
only_lines status lines = record { status = status; stores = []; lines = lines }

abbrev pub absent_line : Role → List ℕ
absent_line of = codes "absent " ++ role_word of ++ codes "\n"

abbrev pub absent : Role → Answer
absent of = only_lines status.Absent (absent_line of)

abbrev pub too_long_line : Role → List ℕ
too_long_line of = codes "too long " ++ role_word of ++ codes "\n"

abbrev pub too_long : Role → Answer
too_long of = only_lines status.TooLong (too_long_line of)

-- a refusal by its number and its two values
abbrev pub bad_input_line : Role → ℕ → ℕ → ℕ → List ℕ
bad_input_line of number x y = codes "bad input " ++ role_word of ++ codes " " ++ decimal number ++ codes " " ++ decimal x ++ codes " " ++ decimal y ++ codes "\n"

abbrev pub bad_input : Role → ℕ → ℕ → ℕ → Answer
bad_input of number x y = only_lines status.BadInput (bad_input_line of number x y)

-- the answer to a refusal; where there is none, memory ran out and there is no answer
abbrev pub Refused : Option Refusal → Answer → Type 0
Refused None answer = ⊥
Refused (Some r) answer = answer ≡ bad_input r.role r.number r.first r.second

-- a refusal of this file with this number and these two values
abbrev pub refusal : Role → ℕ → ℕ → ℕ → Option Refusal
refusal of number x y = Some (record { role = of; number = number; first = x; second = y })

-- the refusals of parameters
abbrev pub params_refusal : BadParams → Option Refusal
params_refusal bad_params.ZeroSide = refusal role.Params 1 0 0
params_refusal (bad_params.Order left right) = refusal role.Params 2 left right
params_refusal (bad_params.OverLimit value limit) = refusal role.Params 3 value limit

-- the refusals of lists that make no instance
abbrev pub lists_refusal : BadInstance → Option Refusal
lists_refusal bad_instance.Memory = None
lists_refusal bad_instance.NoItems = refusal role.Batch 4 0 0
lists_refusal (bad_instance.TooMany of count limit) = refusal of 5 count limit
lists_refusal (bad_instance.DoubleId first second) = refusal role.Batch 6 first second
lists_refusal (bad_instance.DoubleSequence first second) = refusal role.Batch 7 first second
lists_refusal (bad_instance.ZeroItem position) = refusal role.Batch 8 position 0

-- the refusals of a text
abbrev pub text_refusal : Role → BadText → Option Refusal
text_refusal of bad_text.Memory = None
text_refusal of (bad_text.Record row fields) = refusal of 10 row fields
text_refusal of (bad_text.Number row column) = refusal of 11 row column
text_refusal of (bad_text.Range row column) = refusal of 12 row column
text_refusal of (bad_text.EmptyDefect row) = refusal of 13 row 0
text_refusal of (bad_text.ZeroWidth row) = refusal of 14 row 0
text_refusal of (bad_text.Params reason) = params_refusal reason
