-- How a number grows by its digits.
use Rattle.std.proofs.Common.{◌≡◌, ◌<◌, ◌≤◌, ◌+◌, ◌*◌, ◌-◌, ◌^◌, ℕ, List, [], ◌∷◌, true, length, take, get_or, arith}
use Rattle.std.specs.Char.{is_ascii_digit}
use Rattle.std.specs.List.{list_all}
use Rattle.std.specs.Str.Parse.{AllDigits, digits_value}
use Rattle.std.proofs.lemmas.Bool.{and_parts}
use Rattle.std.proofs.lemmas.Str.{digit_value_digit}
use Rattle.std.proofs.lemmas.Str.Parse.{digit_at, digits_value-take-le}
use Rattle.std.proofs.lemmas.Int.Digits.{digits_value-lt, digits_value_more}
use Rattle.std.proofs.Math.Nat.{pow-le-pow_right}
use Rattle.std.specs.Int.{IsInRange}
use Rattle.glass_base.proofs.NumberTexts.{digit_code}

pub all-digits : (ds : List ℕ) → list_all is_ascii_digit ds ≡ true → AllDigits 10 ds
all-digits [] e = tt
all-digits (c ∷ cs) e =
    let k = and_parts (is_ascii_digit c) (list_all is_ascii_digit cs) e in
    let v = digit_value_digit c (digit_code c k.0) in
    let r = digit_code c k.0 in
    (omega arith, all-digits cs k.1)

pub value_below : (ds : List ℕ) → list_all is_ascii_digit ds ≡ true → digits_value 10 ds < 10 ^ length ds
value_below ds e = digits_value-lt 10 ds (all-digits ds e)

-- one more digit of few
pub record IsNext (ds : List ℕ) (i : ℕ) : Type 0 where
  pub code : IsInRange 48 57 (get_or ds i 0)
  pub value : digits_value 10 (take (i + 1) ds) ≡ digits_value 10 (take i ds) * 10 + (get_or ds i 0 - 48)
  pub small : digits_value 10 (take (i + 1) ds) < 10 ^ 9

pub next_digit : (ds : List ℕ) (i : ℕ) → list_all is_ascii_digit ds ≡ true → length ds ≤ 9 → i < length ds → IsNext ds i
next_digit ds i e h k =
    let all = all-digits ds e in
    let code : IsInRange 48 57 (get_or ds i 0) = digit_at ds i all k in
    let v = digit_value_digit (get_or ds i 0) code in
    let more = digits_value_more 10 ds i k in
    let le = digits_value-take-le 10 ds (i + 1) (omega arith) in
    let below = value_below ds e in
    let power : 10 ^ length ds ≤ 10 ^ 9 = pow-le-pow_right (omega arith) h in
    record { code = code; value = omega arith; small = omega arith }
