-- The texts of a command's files are not too long.
use Rattle.std.proofs.Common.{◌≡◌, ℕ, ◌≤◌, List, [], ◌∷◌, length, Bool, true, false, cond, refl, subst, arith, Option, Some, None, Result, Ok, Err}
use Rattle.std.specs.Prelude.{IfOk, nat_le, option_map, unwrap_or, find}
use Rattle.std.proofs.lemmas.Bool.Decides.{nat_tests}
use Rattle.glass_base.specs.Roles.{is_role}
use Rattle.glass_base.specs.declared.role.Role.{Role}
use Rattle.glass_base.specs.declared.role.Role.TheVariants as role
use Rattle.glass_io.specs.Told.{Contents}
use Rattle.run_frame.specs.Answers.{Answer, too_long}
use Rattle.run_frame.specs.Texts.{Texts, limit_of, or_refused, text_of, text_or_empty, texts_of}
use Rattle.glass_base.specs.declared.limits.TheConstants.{MOST_CERT_BYTES}

-- no file may have more bytes
limit_small : (of : Role) → limit_of of ≤ MOST_CERT_BYTES
limit_small role.Batch = omega arith
limit_small role.Defects = omega arith
limit_small role.Params = omega arith
limit_small role.Plan = omega arith
limit_small role.Cert = omega arith
limit_small role.Plates = omega arith
limit_small role.Sheet = omega arith

abbrev IsShort : List ℕ → Type 0
IsShort bytes = length bytes ≤ MOST_CERT_BYTES

abbrev AreShort : Texts → Type 0
AreShort [] = Unit {0}
AreShort (text ∷ texts) = IsShort text.1 × AreShort texts

one_short : (of : Role) (bytes : Option (List ℕ)) → IfOk (text_of of bytes) IsShort
one_short of None = tt
one_short of (Some bytes) = by (nat_le (length bytes) (limit_of of)) refl
  where
    within : nat_le (length bytes) (limit_of of) ≡ true → length bytes ≤ limit_of of
    within e = grind (arith, nat_tests)

    by : (b : Bool) → nat_le (length bytes) (limit_of of) ≡ b → IfOk (cond b (Ok bytes) (Err (too_long of))) IsShort
    by true e = omega (arith, within e, limit_small of)
    by false e = tt

both_short : (of : Role) (first : Result (List ℕ) Answer) (later : Result Texts Answer) → IfOk first IsShort → IfOk later AreShort → IfOk (or_refused of first later) AreShort
both_short of (Ok bytes) (Ok texts) h k = (h, k)
both_short of (Ok bytes) (Err refusal) h k = tt
both_short of (Err refusal) later h k = tt

all_short : (held : Contents) (files : List (Role × List ℕ)) → IfOk (texts_of held files) AreShort
all_short held [] = tt
all_short held (file ∷ files) = both_short file.0 (text_of file.0 (held file.1)) (texts_of held files) (one_short file.0 (held file.1)) (all_short held files)

found_short : (of : Role) (texts : Texts) → AreShort texts → IsShort (text_or_empty texts of)
found_short of [] h = omega arith
found_short of (text ∷ texts) h = by (is_role of text.0) (found_short of texts h.1)
  where
    by : (b : Bool) → IsShort (text_or_empty texts of) → IsShort (unwrap_or (option_map (λ t. t.1) (cond b (Some text) (find (λ t. is_role of t.0) texts))) [])
    by true later = h.0
    by false later = later

-- so no text of a line's files has more
pub text_short : (held : Contents) (files : List (Role × List ℕ)) (texts : Texts) (of : Role) → texts_of held files ≡ Ok texts → length (text_or_empty texts of) ≤ MOST_CERT_BYTES
text_short held files texts of is = found_short of texts (subst (λ (r : Result Texts Answer). IfOk r AreShort) is (all_short held files))
