-- The texts of a command's files.
use Rattle.std.specs.Prelude.{◌≡◌, ◌⊎◌, ℕ, List, [], ◌∷◌, length, find, nat_le, if◌then◌else◌, Option, Some, None, Result, Ok, Err, IsOk, option_map, unwrap_or}
use Rattle.glass_base.specs.Roles.{is_role}
use Rattle.glass_base.specs.declared.role.Role.{Role}
use Rattle.glass_base.specs.declared.role.Role.TheVariants as role
use Rattle.glass_io.specs.Told.{Contents}
use Rattle.run_frame.specs.Answers.{Answer, absent, too_long}
use Rattle.glass_base.specs.declared.limits.TheConstants.{MOST_CERT_BYTES}

-- texts, each with the role of its file
abbrev pub Texts : Type 0
Texts = List (Role × List ℕ)

-- the text of this role, if there is one
abbrev pub text_for : Texts → Role → Option (List ℕ)
text_for texts of = option_map (λ t. t.1) (find (λ t. is_role of t.0) texts)

-- the text of this role, which is empty where there is none
abbrev pub text_or_empty : Texts → Role → List ℕ
text_or_empty texts of = unwrap_or (text_for texts of) []

-- the greatest number of bytes of a file of this role
abbrev pub limit_of : Role → ℕ
limit_of role.Cert = MOST_CERT_BYTES
limit_of _ = 4194304

-- the bytes of a file, unless it is not there or has too many
abbrev pub text_of : Role → Option (List ℕ) → Result (List ℕ) Answer
text_of of None = Err (absent of)
text_of of (Some bytes) = if nat_le (length bytes) (limit_of of) then Ok bytes else Err (too_long of)

-- a text before others
abbrev pub put_before : Role × List ℕ → Result Texts Answer → Result Texts Answer
put_before text (Ok texts) = Ok (text ∷ texts)
put_before text (Err refusal) = Err refusal

abbrev pub or_refused : Role → Result (List ℕ) Answer → Result Texts Answer → Result Texts Answer
or_refused of (Ok bytes) later = put_before (of, bytes) later
or_refused of (Err refusal) later = Err refusal

-- the texts of files, in their order, or the answer to the first file that gives none
abbrev pub texts_of : Contents → List (Role × List ℕ) → Result Texts Answer
texts_of contents [] = Ok []
texts_of contents (file ∷ files) = or_refused file.0 (text_of file.0 (contents file.1)) (texts_of contents files)

-- the answer to texts, or to the first file that gives none
abbrev pub AnswersFetched : (Texts → Answer → Type 0) → Result Texts Answer → Answer → Type 0
AnswersFetched AnswersTexts (Ok texts) answer = AnswersTexts texts answer
AnswersFetched AnswersTexts (Err refusal) answer = answer ≡ refusal

-- a file of this role is among these, and the files before it give their texts
abbrev pub Reaches : Contents → Role → List (Role × List ℕ) → Type 0
Reaches contents of [] = ⊥
Reaches contents of (file ∷ files) = (of ≡ file.0) ⊎ (IsOk (text_of file.0 (contents file.1)) × Reaches contents of files)
