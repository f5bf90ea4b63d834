-- What a reader of a table gives, or its first refusal.
use Rattle.std.specs.Prelude.{◌≡◌, ◌==◌, ◌+◌, ◌*◌, ℕ, List, [], ◌∷◌, drop, nat_le, if◌then◌else◌, Option, option_and_then, Some, None, Result, Ok, Err}
use Rattle.glass_base.specs.declared.bad_text.BadText.{BadText}
use Rattle.glass_base.specs.declared.bad_text.BadText.TheVariants as bad
use Rattle.csv_table.specs.Numbers.{decimal, millionths_in}
use Rattle.csv_table.specs.Rows.{table_rows}
use Rattle.csv_table.specs.declared.number.Decimal.{Decimal}

-- what is read next is read from this, unless it was refused
infixl 10 ◌>>=◌
abbrev pub ◌>>=◌ : {A B E : Type 0} → Result A E → (A → Result B E) → Result B E
(Ok x) >>= f = f x
(Err e) >>= f = Err e

-- a function refused what the definition refuses, for the same reason, or memory ran out
abbrev pub Fails : {Y : Type 0} → BadText → Result Y BadText → Type 0
Fails bad.Memory said = Unit {0}
Fails (bad.Record row fields) said = said ≡ Err (bad.Record row fields)
Fails (bad.Number row column) said = said ≡ Err (bad.Number row column)
Fails (bad.Range row column) said = said ≡ Err (bad.Range row column)
Fails (bad.EmptyDefect row) said = said ≡ Err (bad.EmptyDefect row)
Fails (bad.ZeroWidth row) said = said ≡ Err (bad.ZeroWidth row)
Fails (bad.Params reason) said = said ≡ Err (bad.Params reason)

-- what a function returned, seen by `view`, is what the definition says, unless memory ran out
abbrev pub Gives : {X Y : Type 0} → (X → Y) → Result X BadText → Result Y BadText → Type 0
Gives view (Ok x) said = said ≡ Ok (view x)
Gives view (Err e) said = Fails e said

-- a number of a column whose numbers are whole and at most this
abbrev pub whole_number : ℕ → ℕ → ℕ → Option Decimal → Result ℕ BadText
whole_number row column most None = Err (bad.Number row column)
whole_number row column most (Some n) =
    if n.millionths == 0 then (if nat_le n.whole most then Ok n.whole else Err (bad.Range row column)) else Err (bad.Number row column)

-- the number in a field of such a column
abbrev pub whole_in : ℕ → ℕ → ℕ → Option (List ℕ) → Result ℕ BadText
whole_in row column most field = whole_number row column most (option_and_then decimal field)

-- a number of a column whose numbers may have decimals and are at most this
abbrev pub measured : ℕ → ℕ → ℕ → Option Decimal → Result Decimal BadText
measured row column most None = Err (bad.Number row column)
measured row column most (Some n) = if nat_le (millionths_in n) (most * 1000000) then Ok n else Err (bad.Range row column)

-- the number in a field of such a column
abbrev pub measure_in : ℕ → ℕ → ℕ → Option (List ℕ) → Result Decimal BadText
measure_in row column most field = measured row column most (option_and_then decimal field)

-- what rows say that are numbered from this one on, row by row: the first refusal decides
abbrev pub each_row : {A : Type 0} → (ℕ → List (List ℕ) → Result A BadText) → ℕ → List (List (List ℕ)) → Result (List A) BadText
each_row say row [] = Ok []
each_row say row (fields ∷ rest) = say row fields >>= λ x. each_row say (row + 1) rest >>= λ xs. Ok (x ∷ xs)

-- what a table says: all its rows but the first, which is skipped
abbrev pub table : {A : Type 0} → (ℕ → List (List ℕ) → Result A BadText) → List ℕ → Result (List A) BadText
table say bytes = each_row say 2 (drop 1 (table_rows bytes))
