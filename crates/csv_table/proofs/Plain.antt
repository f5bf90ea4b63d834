-- A line of numbers needs no quotes.
use Rattle.std.proofs.Common.{◌≡◌, ◌<◌, ◌≤◌, ◌^◌, ◌++◌, length, ℕ, List, [], ◌∷◌, false, refl, ap, arith, suc}
use Rattle.std.proofs.lemmas.List.{append-nil}
use Rattle.std.specs.Fmt.{decimal, signed_decimal}
use Rattle.std.specs.Int.{IsInRange}
use Rattle.std.specs.List.{join_with_byte}
use Rattle.std.specs.Str.Parse.{AllDigits}
use Rattle.std.proofs.lemmas.Fmt.{decimal_is_IsNumeral}
use Rattle.std.specs.Prelude.{ℤ, pos, negsuc}
use lib.Signed.{mag}
use Rattle.std.proofs.lemmas.Str.Parse.{digit_from_value}
use Rattle.csv.specs.Writing.{field_text, fields_text, is_blank, needs_byte, row_body, row_text}
use Rattle.csv_table.specs.Lines.{IsPlain, ArePlain, line_of, semicolons}

text-plain : (f : List ℕ) → IsPlain f → field_text semicolons f ≡ f
text-plain f h = rw h refl

body-plain : (f : List ℕ) (fs : List (List ℕ)) → IsPlain f → ArePlain fs → row_body semicolons (f ∷ fs) ≡ join_with_byte 59 (f ∷ fs)
unfolding fields_text
body-plain f [] h k = rw h (append-nil f)
body-plain f (g ∷ fs) h k = rw h (ap (λ rest. f ++ (59 ∷ rest)) (body-plain g fs k.0 k.1))

pub row-plain : (f g : List ℕ) (fs : List (List ℕ)) → ArePlain (f ∷ g ∷ fs) → row_text semicolons (f ∷ g ∷ fs) ≡ line_of (f ∷ g ∷ fs)
unfolding is_blank
row-plain f g fs h = ap (λ body. body ++ 10 ∷ []) (body-plain f (g ∷ fs) h.0 h.1)

digit-plain : (c : ℕ) → IsInRange 48 57 c → needs_byte semicolons c ≡ false
digit-plain c h = grind (arith)

digits-plain : (ds : List ℕ) → AllDigits 10 ds → IsPlain ds
digits-plain [] h = refl
digits-plain (c ∷ cs) h = rw (digit-plain c (digit_from_value c h.0)) (digits-plain cs h.1)

pub decimal-plain : (n : ℕ) → n < 2 ^ 64 → IsPlain (decimal n)
decimal-plain n h = digits-plain (decimal n) (decimal_is_IsNumeral n h).0.1

pub signed-plain : (z : ℤ) → mag z < 2 ^ 63 → IsPlain (signed_decimal z)
signed-plain (pos n) h = decimal-plain n (omega arith)
signed-plain (negsuc n) h = decimal-plain (suc n) (omega arith)

-- a line of two fields or more that need no quotes
pub line-plain : (fields : List (List ℕ)) → 2 ≤ length fields → ArePlain fields → row_text semicolons fields ≡ line_of fields
line-plain [] some h = absurd (omega (arith, some))
line-plain (f ∷ []) some h = absurd (omega (arith, some))
line-plain (f ∷ g ∷ fs) some h = row-plain f g fs h
