-- Texts that are read as numbers are those that the numbers are written as.
use Rattle.std.proofs.Common.{rules, ◌≡◌, ◌≢◌, ◌<◌, ◌≤◌, ◌^◌, ◌&&◌, ℕ, List, [], ◌∷◌, Bool, true, false, cond, length, get_or, arith, refl, sym, ◌∙◌, ap, subst, inl, inr, None, Some}
use Rattle.std.specs.Prelude.{nat_le, nat_lt, not, Result, Ok, Err}
use Rattle.std.specs.Char.{is_ascii_digit}
use Rattle.std.specs.Fmt.{decimal}
use Rattle.std.specs.Int.{IsInRange}
use Rattle.std.specs.List.{list_all}
use Rattle.std.specs.Result.{MatchResult, result_ok}
use Rattle.std.specs.Str.{IsAscii}
use Rattle.std.specs.Str.Parse.{ParsesUnsigned, digits_value}
use Rattle.std.proofs.lemmas.Bool.{and_parts, and_right, cases_order, le-leb, leb-true, lt-leb, lt-ltb, ne_eqb, not-true}
use Rattle.std.proofs.lemmas.Fmt.{decimal-digits_value, decimal_digit, decimal_nonempty, digits_decimal, digits_value-decimal, first_decimal}
use Rattle.std.proofs.lemmas.Str.Ascii.{IsAscii-from_reads}
use Rattle.std.proofs.lemmas.Str.Parse.{IsNumeralModel, digit_at, numerals_by_value, parse_digits}
use Rattle.glass_base.specs.Digits.{has_leading_zero, is_number, number_within}

-- a digit's code
pub digit_code : (c : ℕ) → is_ascii_digit c ≡ true → IsInRange 48 57 c
digit_code c e = grind (arith)

abbrev AreDigits : List ℕ → Type 0
AreDigits text = list_all is_ascii_digit text ≡ true

-- std's lemmas on decimal digits, for this test
own : IsNumeralModel AreDigits (digits_value 10)
own = numerals_by_value AreDigits (search rules)

-- what is known of a text that is a number
record IsSaid (text : List ℕ) : Type 0 where
  digits : AreDigits text
  some : 0 < length text
  plain : has_leading_zero text ≡ false

said : (text : List ℕ) → is_number text ≡ true → IsSaid text
said text e =
    let a = and_parts (nat_lt 0 (length text) && list_all is_ascii_digit text) (not (has_leading_zero text)) e in
    let b = and_parts (nat_lt 0 (length text)) (list_all is_ascii_digit text) a.0 in
    record { digits = b.1; some = grind (arith, b.0); plain = not-true (has_leading_zero text) a.1 }

pub number_is_ascii : (text : List ℕ) → is_number text ≡ true → IsAscii text
number_is_ascii text e =
    let all = own.to text (said text e).digits in
    IsAscii-from_reads text (length text) (omega arith) (λ k inside. let d = digit_at text k all inside in omega (arith, d.1))

-- what a call answered with an error, or with a value
pub refused_of : {A E : Type 0} (r : Result A E) (P : A → Type 0) (Q : E → Type 0) → MatchResult r P Q → result_ok r ≡ None → (e : E) × Q e
refused_of (Ok a) P Q m is = absurd cc
refused_of (Err e) P Q m is = (e, m)

pub taken_of : {A E : Type 0} (r : Result A E) (P : A → Type 0) (Q : E → Type 0) (a : A) → MatchResult r P Q → result_ok r ≡ Some a → P a
taken_of (Ok b) P Q a m is = let same : b ≡ a = cc in subst P same m
taken_of (Err e) P Q a m is = absurd cc

-- a number that does not fit is above all that may be said
pub too_large : {E : Type 0} (least most : ℕ) (text : List ℕ) (r : Result ℕ E) → most < 2 ^ 64 → is_number text ≡ true → ParsesUnsigned 64 10 text r → result_ok r ≡ None → None ≡ number_within least most text
too_large least most text (Ok n) small number parses none = absurd cc
too_large least most text (Err e) small number parses none =
    let d = said text number in
    let fails = parse_digits own 64 text (Err e) parses d.digits in
    let above : most < digits_value 10 text = omega (arith, λ (below : digits_value 10 text ≤ most). fails (d.some, omega (arith, below, small))) in
    rw (lt-ltb 0 (length text) d.some, d.digits, d.plain, lt-leb (digits_value 10 text) most above, and_right (nat_le least (digits_value 10 text)) false refl) refl

-- a text without a zero at the front that begins with one is that zero
single : (text : List ℕ) → has_leading_zero text ≡ false → get_or text 0 0 ≡ 48 → length text ≡ 1
single [] e z = omega (arith, z)
single (a ∷ []) e z = refl
single (a ∷ b ∷ rest) e z = absurd (grind (arith, e, z))

some_only_if : {A : Type 0} (test : Bool) (x y : A) → cond test (Some x) None ≡ Some y → (test ≡ true) × (x ≡ y)
some_only_if true x y e = (refl, cc)
some_only_if false x y e = absurd cc

-- what is read is the number's own text
pub read_is_text : (least most : ℕ) (text : List ℕ) (n : ℕ) → most < 2 ^ 64 → number_within least most text ≡ Some n → (least ≤ n) × (n ≤ most) × (text ≡ decimal n)
read_is_text least most text n small is =
    let v = digits_value 10 text in
    let read = some_only_if (is_number text && (nat_le least v && nat_le v most)) v n is in
    let tests = and_parts (is_number text) (nat_le least v && nat_le v most) read.0 in
    let within = and_parts (nat_le least v) (nat_le v most) tests.1 in
    let d = said text tests.0 in
    let above = leb-true least v within.0 in
    let below = leb-true v most within.1 in
    let written = decimal-digits_value own text d.digits d.some (single text d.plain) (omega (arith, below, small)) in
    (omega (arith, above, read.1), omega (arith, below, read.1), sym written ∙ ap decimal read.1)

-- a number's own text is read
pub text_is_read : (least most : ℕ) (text : List ℕ) (n : ℕ) → most < 2 ^ 64 → least ≤ n → n ≤ most → text ≡ decimal n → number_within least most text ≡ Some n
text_is_read least most text n small above below is = rw is (by (decimal n) (digits_decimal own n fits) (decimal_nonempty n fits) no_front (digits_value-decimal own n fits))
  where
    fits : n < 2 ^ 64
    fits = omega (arith, below, small)

    no_front : has_leading_zero (decimal n) ≡ false
    no_front = elim (cases_order 0 n) [
      | inl zero ↦ rw (sym zero, decimal_digit 0 (omega arith)) refl
      | inr (inl more) ↦ no_zero (decimal n) (first_decimal n more fits)
      | inr (inr less) ↦ absurd (omega (arith, less))
    ]
      where
        no_zero : (text : List ℕ) → 48 < get_or text 0 0 → has_leading_zero text ≡ false
        no_zero [] h = refl
        no_zero (a ∷ []) h = refl
        no_zero (a ∷ b ∷ rest) h = let other : a ≢ 48 = omega (arith, h) in ne_eqb a 48 other

    by : (text : List ℕ) → AreDigits text → 0 < length text → has_leading_zero text ≡ false → digits_value 10 text ≡ n → number_within least most text ≡ Some n
    by text digits some plain worth = rw (lt-ltb 0 (length text) some, digits, plain, worth, le-leb least n above, le-leb n most below) refl

-- where nothing is read no such text is there
pub unread_is_no_text : (least most : ℕ) (text : List ℕ) → most < 2 ^ 64 → number_within least most text ≡ None → (n : ℕ) → least ≤ n → n ≤ most → text ≡ decimal n → ⊥
unread_is_no_text least most text small none n above below is = let read = text_is_read least most text n small above below is in cc
