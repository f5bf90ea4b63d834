-- A text of digits is a number: what is written of a number is read again.
use Rattle.std.proofs.Common.{◌≡◌, ◌≢◌, ◌<◌, ◌≤◌, ◌+◌, ◌-◌, ◌/◌, ◌%◌, ◌^◌, ◌==◌, ℕ, zero, suc, List, [], ◌∷◌, length, get_or, Bool, true, false, Some, None, refl, ap, ◌∙◌, arith, if◌then◌else◌}
use Rattle.std.proofs.lemmas.Bool.{and_parts, le-leb, le-ltb, lt-ltb, ne_eqb, not-true}
use Rattle.std.proofs.lemmas.Fmt.{decimal_is_IsNumeral, decimal_nonempty, length-decimal-le}
use Rattle.std.proofs.lemmas.List.{take_all}
use Rattle.std.proofs.lemmas.List.Sums.{suffix_len_is}
use Rattle.std.specs.Char.{is_ascii_digit}
use Rattle.std.specs.Fmt.{decimal, digit_glyph, digits as written_digits, digits_onto}
use Rattle.std.specs.Int.{IsInRange}
use Rattle.std.specs.List.{list_all, prefix_len, suffix_len}
use Rattle.std.specs.Prelude.{not, position}
use Rattle.std.specs.Str.Parse.{digits_value}
use Rattle.csv_table.specs.Numbers.{digits, is_blank, is_point, number_at, trimmed, without_front}
use Rattle.csv.specs.Writing.{needs_byte}
use Rattle.csv_table.specs.Lines.{IsPlain, semicolons}
use Rattle.glass_base.proofs.NumberTexts.{digit_code}
use Rattle.glass_base.specs.declared.limits.TheConstants.{MOST_NUMBER}

-- bytes that all pass a test pass each weaker one
all_weaker : (p q : ℕ → Bool) (xs : List ℕ) → ((x : ℕ) → p x ≡ true → q x ≡ true) → list_all p xs ≡ true → list_all q xs ≡ true
all_weaker p q [] weaker h = refl
all_weaker p q (x ∷ xs) weaker h =
    let k = and_parts (p x) (list_all p xs) h in
    rw (weaker x k.0) (all_weaker p q xs weaker k.1)

-- where all bytes pass a test, the first that does not is the end
prefix_all : (p : ℕ → Bool) (xs : List ℕ) → list_all p xs ≡ true → prefix_len p xs ≡ length xs
prefix_all p [] h = refl
prefix_all p (x ∷ xs) h =
    let k = and_parts (p x) (list_all p xs) h in
    rw k.0 (omega (arith, prefix_all p xs k.1))

-- where no byte passes a test, none does at any place
fails_at : (p : ℕ → Bool) (xs : List ℕ) (k : ℕ) → list_all (λ x. not (p x)) xs ≡ true → k < length xs → p (get_or xs k 0) ≡ false
fails_at p [] k h l = absurd (omega arith)
fails_at p (x ∷ xs) zero h l = not-true (p x) (and_parts (not (p x)) (list_all (λ y. not (p y)) xs) h).0
fails_at p (x ∷ xs) (suc k) h l = fails_at p xs k (and_parts (not (p x)) (list_all (λ y. not (p y)) xs) h).1 (omega arith)

-- where no byte passes a test, none at the start does
no_prefix : (p : ℕ → Bool) (xs : List ℕ) → list_all (λ x. not (p x)) xs ≡ true → prefix_len p xs ≡ 0
no_prefix p [] h = refl
no_prefix p (x ∷ xs) h = rw (not-true (p x) (and_parts (not (p x)) (list_all (λ y. not (p y)) xs) h).0) refl

-- where no byte passes a test, none at the end does
no_suffix : (p : ℕ → Bool) (xs : List ℕ) → list_all (λ x. not (p x)) xs ≡ true → suffix_len p xs ≡ 0
no_suffix p xs h =
    suffix_len_is p xs (length xs) 0 (omega arith) (λ k low high. absurd (omega arith)) (λ some. fails_at p xs (length xs - 1) h (omega arith)) ∙ omega arith

-- a text without blanks stands as it is
pub trimmed_none : (text : List ℕ) → list_all (λ c. not (is_blank c)) text ≡ true → trimmed text ≡ text
trimmed_none text h =
    let front : without_front text ≡ text = rw (no_prefix is_blank text h) refl in
    rw (front, no_suffix is_blank text h) (take_all (length text - 0) text (omega arith))

-- a text without a point has none at any place
pub no_point : (text : List ℕ) → list_all (λ c. not (is_point c)) text ≡ true → position is_point text ≡ None
no_point text h = rw (prefix_all (λ c. not (is_point c)) text h, le-ltb (length text) (length text) (omega arith)) refl

-- a digit is no byte below it
pub digit_other : (c k : ℕ) → is_ascii_digit c ≡ true → k < 48 → (c == k) ≡ false
digit_other c k h l =
    let r = digit_code c h in
    let ne : c ≢ k = omega arith in
    ne_eqb c k ne

-- a digit is no blank
digit_no_blank : (c : ℕ) → is_ascii_digit c ≡ true → not (is_blank c) ≡ true
digit_no_blank c h = rw (digit_other c 32 h (omega arith), digit_other c 9 h (omega arith)) refl

-- a digit is no point
digit_no_point : (c : ℕ) → is_ascii_digit c ≡ true → not (is_point c) ≡ true
digit_no_point c h = rw (digit_other c 46 h (omega arith)) refl

-- one to nine digits have a value
digits_some : (text : List ℕ) → list_all is_ascii_digit text ≡ true → 0 < length text → length text ≤ 9 → digits 9 text ≡ Some (digits_value 10 text)
digits_some text h some few = rw (lt-ltb 0 (length text) some, le-leb (length text) 9 few, h) refl

-- one to nine digits are a number without a point
pub number_of_digits : (text : List ℕ) → list_all is_ascii_digit text ≡ true → 0 < length text → length text ≤ 9
    → number_at text (position is_point text) ≡ Some (record { whole = digits_value 10 text; millionths = 0 })
number_of_digits text h some few =
    rw (no_point text (all_weaker is_ascii_digit (λ c. not (is_point c)) text digit_no_point h), digits_some text h some few) refl

-- digits have no blanks
pub blanks_in_digits : (text : List ℕ) → list_all is_ascii_digit text ≡ true → list_all (λ c. not (is_blank c)) text ≡ true
blanks_in_digits text h = all_weaker is_ascii_digit (λ c. not (is_blank c)) text digit_no_blank h

-- digits stand as they are
pub trimmed_digits : (text : List ℕ) → list_all is_ascii_digit text ≡ true → trimmed text ≡ text
trimmed_digits text h = trimmed_none text (blanks_in_digits text h)

-- what is written of a number below ten is a digit
glyph_digit : (d : ℕ) → d < 10 → is_ascii_digit (digit_glyph false d) ≡ true
glyph_digit d h = rw (lt-ltb d 10 h, le-leb 48 (48 + d) (omega arith), le-leb (48 + d) 57 (omega arith)) refl

-- digits that are written before digits are digits
onto_digits : (k n : ℕ) (text : List ℕ) → list_all is_ascii_digit text ≡ true → list_all is_ascii_digit (digits_onto k 10 false n text) ≡ true
onto_digits zero n text h = h
onto_digits (suc k) n text h =
    let more : list_all is_ascii_digit (digit_glyph false (n % 10) ∷ text) ≡ true = rw (glyph_digit (n % 10) (omega arith)) h in
    by (n / 10 == 0) _ _ more (onto_digits k (n / 10) _ more)
  where
    by : (b : Bool) (xs ys : List ℕ) → list_all is_ascii_digit xs ≡ true → list_all is_ascii_digit ys ≡ true → list_all is_ascii_digit (if b then xs else ys) ≡ true
    by true xs ys f g = f
    by false xs ys f g = g

-- what is written of a number is digits alone
pub digits_of_decimal : (n : ℕ) → list_all is_ascii_digit (decimal n) ≡ true
unfolding written_digits
digits_of_decimal n = onto_digits 64 n [] refl

-- a number is written with one to nine digits
pub record IsFew (n : ℕ) : Type 0 where
  pub some : 0 < length (decimal n)
  pub few : length (decimal n) ≤ 9

-- a number up to nine nines is written with one to nine digits
pub few_digits : (n : ℕ) → n ≤ MOST_NUMBER → IsFew n
few_digits n h = let small : n < 2 ^ 64 = omega arith in record { some = decimal_nonempty n small; few = length-decimal-le 9 n (omega arith) (omega arith) small }

-- the value of what is written of a number is that number
pub value_of_decimal : (n : ℕ) → n ≤ MOST_NUMBER → digits_value 10 (decimal n) ≡ n
value_of_decimal n h = (decimal_is_IsNumeral n (omega arith)).1

-- what is written of a number is read as that number
pub number_of_decimal : (n : ℕ) → n ≤ MOST_NUMBER → number_at (decimal n) (position is_point (decimal n)) ≡ Some (record { whole = n; millionths = 0 })
number_of_decimal n h =
    let few = few_digits n h in
    number_of_digits (decimal n) (digits_of_decimal n) few.some few.few ∙ ap (λ (whole : ℕ). Some (record { whole = whole; millionths = 0 })) (value_of_decimal n h)

-- a digit needs no quotes
digit_plain : (c : ℕ) → IsInRange 48 57 c → needs_byte semicolons c ≡ false
digit_plain c h = grind (arith)

-- digits need no quotes
pub plain_digits : (text : List ℕ) → list_all is_ascii_digit text ≡ true → IsPlain text
plain_digits [] h = refl
plain_digits (c ∷ text) h =
    let k = and_parts (is_ascii_digit c) (list_all is_ascii_digit text) h in
    rw (digit_plain c (digit_code c k.0)) (plain_digits text k.1)
