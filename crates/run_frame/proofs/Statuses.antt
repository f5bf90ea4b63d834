-- The statuses of answers to files that give no text and to what is refused.
use Rattle.std.proofs.Common.{ℕ, List, [], ◌∷◌, length, Bool, true, false, if◌then◌else◌, Option, Some, None}
use Rattle.std.specs.Prelude.{IfErr, Ok, Err, Result, nat_le}
use Rattle.glass_base.specs.declared.role.Role.{Role}
use Rattle.glass_io.specs.Told.{Contents}
use Rattle.run_frame.specs.Answers.{Answer, Refused, too_long}
use Rattle.run_frame.specs.Texts.{Texts, limit_of, or_refused, text_of, texts_of}
use Rattle.run_frame.specs.declared.refusals.Refusal.{Refusal}
use Rattle.run_frame.specs.declared.status.Status.{Status}
use Rattle.run_frame.specs.declared.status.Status.TheVariants as status

-- the status of an answer to a file that gives no text, or to a text that is refused
abbrev pub IsRefused : Status → Type 0
IsRefused status.Absent = Unit {0}
IsRefused status.TooLong = Unit {0}
IsRefused status.BadInput = Unit {0}
IsRefused _ = ⊥

abbrev pub Refuses : Answer → Type 0
Refuses answer = IsRefused answer.status

within_limit : (of : Role) (bytes : List ℕ) (within : Bool) → IfErr (if within then Ok bytes else Err (too_long of)) Refuses
within_limit of bytes true = tt
within_limit of bytes false = tt

text_refuses : (of : Role) (held : Option (List ℕ)) → IfErr (text_of of held) Refuses
text_refuses of None = tt
text_refuses of (Some bytes) = within_limit of bytes (nat_le (length bytes) (limit_of of))

either_refuses : (of : Role) (text : Result (List ℕ) Answer) (later : Result Texts Answer) → IfErr text Refuses → IfErr later Refuses → IfErr (or_refused of text later) Refuses
either_refuses of (Ok bytes) (Ok texts) h k = tt
either_refuses of (Ok bytes) (Err refusal) h k = k
either_refuses of (Err refusal) later h k = h

-- where files give no texts the answer refuses one of them
pub texts_refuse : (contents : Contents) (files : List (Role × List ℕ)) → IfErr (texts_of contents files) Refuses
texts_refuse contents [] = tt
texts_refuse contents (file ∷ files) =
    either_refuses file.0 (text_of file.0 (contents file.1)) (texts_of contents files) (text_refuses file.0 (contents file.1)) (texts_refuse contents files)

-- where there is an answer to a refusal it refuses something
pub refused : (r : Option Refusal) (answer : Answer) → Refused r answer → Refuses answer
refused None answer h = absurd h
refused (Some r) answer h = rw h tt
