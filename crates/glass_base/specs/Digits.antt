-- Texts of digits, and the numbers that they say.
use Rattle.std.specs.Prelude.{◌==◌, ◌&&◌, ℕ, List, ◌∷◌, length, nat_le, nat_lt, Bool, false, not, if◌then◌else◌, Option, Some, None}
use Rattle.std.specs.Char.{is_ascii_digit}
use Rattle.std.specs.List.{list_all}
use Rattle.std.specs.Str.Parse.{digits_value}

-- a zero stands before other digits
abbrev pub has_leading_zero : List ℕ → Bool
has_leading_zero (a ∷ b ∷ rest) = a == 48
has_leading_zero _ = false

-- a text is a number: one digit or more, without a sign and without a zero at the front
abbrev pub is_number : List ℕ → Bool
is_number text = nat_lt 0 (length text) && list_all is_ascii_digit text && not (has_leading_zero text)

-- the number that a text says, from the least to the greatest that it may be
abbrev pub number_within : ℕ → ℕ → List ℕ → Option ℕ
number_within least most text =
    let n = digits_value 10 text in
    if is_number text && (nat_le least n && nat_le n most) then Some n else None
