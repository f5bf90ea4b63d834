-- The lines of written rows are read again as these rows.
use Rattle.std.proofs.Common.{◌≡◌, ◌+◌, ◌++◌, ℕ, List, [], ◌∷◌, drop, map, codes, refl, sym, ap, ◌∙◌, arith, rules}
use Rattle.std.proofs.lemmas.List.Elements.{All-head, All-tail, All-cons, All-nil}
use Rattle.std.proofs.lemmas.List.Folds.{flat_map-map}
use Rattle.std.specs.Fmt.{decimal, signed_decimal}
use Rattle.std.specs.List.{flat_map}
use Rattle.std.specs.Prelude.{All, ℤ, pos, negsuc, Option, Some, None, Result, Ok, Err, suc}
use Rattle.glass_base.specs.Problem.{Problem}
use Rattle.cut_model.specs.declared.family.Row.{Row}
use Rattle.csv_table.specs.Lines.{IsPlain, line_of, number_or_none}
use Rattle.csv_table.specs.Rows.{table_rows}
use Rattle.csv_table.proofs.DigitTexts.{digits_of_decimal, plain_digits}
use Rattle.csv_table.proofs.PlainRows.{IsLine, no_mark, rows_of_lines}
use Rattle.csv_table.specs.Readings.{◌>>=◌}
use Rattle.plan_csv.specs.PlanTexts.{or_refusal, row_refusal, rows_behind}
use Rattle.plan_csv.specs.Solutions.{header, row_fields, rows_text}
use Rattle.plan_csv.specs.declared.bad_plan.BadPlan.{BadPlan}
use Rattle.plan_csv.proofs.WrittenNumbers.{IsRowInRange, row_read}

-- the names of the columns, one by one
abbrev pub header_fields : List (List ℕ)
header_fields =
    codes "PLATE_ID" ∷ codes "NODE_ID" ∷ codes "X" ∷ codes "Y" ∷ codes "WIDTH" ∷ codes "HEIGHT" ∷ codes "TYPE" ∷ codes "CUT" ∷ codes "PARENT" ∷ []

-- what is written of a number needs no quotes
decimal_plain : (n : ℕ) → IsPlain (decimal n)
decimal_plain n = plain_digits (decimal n) (digits_of_decimal n)

-- what is written of a type needs no quotes
signed_plain : (z : ℤ) → IsPlain (signed_decimal z)
signed_plain (pos n) = decimal_plain n
signed_plain (negsuc n) = decimal_plain (suc n)

-- what is written of a parent needs no quotes
parent_plain : (parent : Option ℕ) → IsPlain (number_or_none parent)
parent_plain None = refl
parent_plain (Some n) = decimal_plain n

-- the names of the columns need no quotes
header_line : IsLine header_fields
header_line = record { some = omega arith; plain = search rules }

-- the fields of a row need no quotes
row_is_line : (r : Row) → IsLine (row_fields r)
row_is_line r = record { some = omega arith; plain = search (rules, decimal_plain, signed_plain, parent_plain) }

-- the fields of rows need no quotes
rows_are_lines : (rs : List Row) → All IsLine (map row_fields rs)
rows_are_lines [] = All-nil IsLine
rows_are_lines (r ∷ rs) = All-cons IsLine (row_fields r) (map row_fields rs) (row_is_line r) (rows_are_lines rs)

-- the text of rows, by its lines
text_lines : (rs : List Row) → header ++ rows_text rs ≡ flat_map line_of (header_fields ∷ map row_fields rs)
text_lines rs = ap (λ (rest : List ℕ). header ++ rest) (sym (flat_map-map line_of row_fields rs))

-- what is written of rows is read as the names of the columns and their fields
pub written_rows : (rs : List Row) → table_rows (header ++ rows_text rs) ≡ header_fields ∷ map row_fields rs
written_rows rs =
    let lines = All-cons IsLine header_fields (map row_fields rs) header_line (rows_are_lines rs) in
    ap table_rows (text_lines rs) ∙ rows_of_lines (header_fields ∷ map row_fields rs) lines (no_mark 80 _ refl)

-- what rows give that are read one behind the other, behind these: the first refusal decides
abbrev pub rows_after : Problem → ℕ → List Row → List Row → Result (List Row) BadPlan
rows_after b row before [] = Ok before
rows_after b row before (r ∷ rest) = or_refusal (before ++ r ∷ []) (row_refusal b row before r) >>= λ rows. rows_after b (row + 1) rows rest

-- the fields of rows behind others give what the rows give
pub fields_read : (b : Problem) (row : ℕ) (before rs : List Row) → All IsRowInRange rs → rows_behind b row before (map row_fields rs) ≡ rows_after b row before rs
fields_read b row before [] h = refl
fields_read b row before (r ∷ rs) h =
    rw (row_read row r (All-head IsRowInRange r rs h)) (by (or_refusal (before ++ r ∷ []) (row_refusal b row before r)) (λ rows. fields_read b (row + 1) rows rs (All-tail IsRowInRange r rs h)))
  where
    by : (said : Result (List Row) BadPlan) → ((rows : List Row) → rows_behind b (row + 1) rows (map row_fields rs) ≡ rows_after b (row + 1) rows rs)
        → (said >>= λ rows. rows_behind b (row + 1) rows (map row_fields rs)) ≡ (said >>= λ rows. rows_after b (row + 1) rows rs)
    by (Ok rows) more = more rows
    by (Err e) more = refl

-- the text of rows gives what the rows give
pub text_read : (b : Problem) (rs : List Row) → All IsRowInRange rs → rows_behind b 2 [] (drop 1 (table_rows (header ++ rows_text rs))) ≡ rows_after b 2 [] rs
text_read b rs h = rw (written_rows rs) (fields_read b 2 [] rs h)
