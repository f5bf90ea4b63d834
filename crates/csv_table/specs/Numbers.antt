-- What a number is in a table.
use Rattle.std.specs.Prelude.{◌==◌, ◌||◌, ◌&&◌, ◌+◌, ◌-◌, ◌*◌, ◌^◌, ◌<◌, ◌≤◌, Bool, ℕ, List, Option, Some, None, option_map, length, take, drop, nat_lt, nat_le, position, if◌then◌else◌}
use Rattle.std.specs.Char.{is_ascii_digit}
use Rattle.std.specs.List.{list_all, prefix_len, suffix_len}
use Rattle.std.specs.Str.Parse.{digits_value}
use Rattle.csv_table.specs.declared.number.Decimal.{Decimal}

-- a space or a tab
abbrev pub is_blank : ℕ → Bool
is_blank byte = (byte == 32) || (byte == 9)

abbrev pub is_point : ℕ → Bool
is_point byte = byte == 46

-- a text without the blanks at its ends
abbrev pub without_front : List ℕ → List ℕ
without_front text = drop (prefix_len is_blank text) text

abbrev pub trimmed : List ℕ → List ℕ
trimmed text = take (length (without_front text) - suffix_len is_blank (without_front text)) (without_front text)

-- the value of one digit or more, and at most this many
abbrev pub digits : ℕ → List ℕ → Option ℕ
digits most text =
    if nat_lt 0 (length text) && nat_le (length text) most && list_all is_ascii_digit text then Some (digits_value 10 text) else None

-- digits around a point, of which `places` stand behind it
abbrev pub around_point : ℕ → Option ℕ → Option ℕ → Option Decimal
around_point places None behind = None
around_point places (Some n) None = None
around_point places (Some n) (Some f) = Some (record { whole = n; millionths = f * 10 ^ (6 - places) })

-- one to nine digits, or these, a point and one to six digits
abbrev pub number_at : List ℕ → Option ℕ → Option Decimal
number_at text None = option_map (λ n. record { whole = n; millionths = 0 }) (digits 9 text)
number_at text (Some at) = around_point (length (drop (at + 1) text)) (digits 9 (take at text)) (digits 6 (drop (at + 1) text))

-- the number that a field says, between blanks
abbrev pub decimal : List ℕ → Option Decimal
decimal field = number_at (trimmed field) (position is_point (trimmed field))

-- a number in millionths
abbrev pub millionths_in : Decimal → ℕ
millionths_in n = n.whole * 1000000 + n.millionths

-- a number, its decimals below one, that is at most this
pub record IsAtMost (most : ℕ) (n : Decimal) : Type 0 where
  pub most_is : millionths_in n ≤ most * 1000000
  pub below_one : n.millionths < 1000000
