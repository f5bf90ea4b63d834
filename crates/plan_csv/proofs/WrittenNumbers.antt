-- The fields of a written row say what was written.
use Rattle.std.proofs.Common.{◌≡◌, ◌<◌, ◌≤◌, ℕ, suc, List, [], ◌∷◌, length, true, Option, Some, None, refl, arith}
use Rattle.std.proofs.lemmas.Bool.{and_parts, le-leb}
use Rattle.std.specs.Char.{is_ascii_digit}
use Rattle.std.specs.Fmt.{decimal, signed_decimal}
use Rattle.std.specs.List.{list_all}
use Rattle.std.specs.Prelude.{ℤ, pos, negsuc, Ok, option_map}
use Rattle.csv.specs.Records.{field_at}
use Rattle.cut_model.specs.declared.family.Row.{Row}
use Rattle.csv_table.specs.Lines.{number_or_none}
use Rattle.csv_table.proofs.DigitTexts.{blanks_in_digits, digit_other, digits_of_decimal, few_digits, number_of_decimal, trimmed_digits, trimmed_none}
use Rattle.plan_csv.specs.PlanRows.{number_in, parent_in, row_in, type_in, type_text, whole_text}
use Rattle.plan_csv.specs.Solutions.{row_fields}
use Rattle.glass_base.specs.declared.limits.TheConstants.{MOST_NUMBER, MOST_SIDE}

-- the number in a column
pub number_read : (row column most n : ℕ) → n ≤ most → most ≤ MOST_NUMBER → number_in row column most (Some (decimal n)) ≡ Ok n
number_read row column most n h k =
    rw (trimmed_digits (decimal n) (digits_of_decimal n), number_of_decimal n (omega arith), le-leb n most h) refl

-- a number without a sign and blanks
whole_read : (n : ℕ) → n ≤ MOST_NUMBER → whole_text (decimal n) ≡ Some n
whole_read n h = rw (number_of_decimal n h) refl

-- digits are the type of an item
type_of_digits : (text : List ℕ) → list_all is_ascii_digit text ≡ true → 0 < length text → type_text text ≡ option_map (λ n. pos n) (whole_text text)
type_of_digits [] h some = absurd (omega arith)
type_of_digits (c ∷ text) h some =
    let k = and_parts (is_ascii_digit c) (list_all is_ascii_digit text) h in
    rw (digit_other c 45 k.0 (omega arith)) refl

-- a type that rows have: the number of an item, or -1, -2 or -3
abbrev pub IsType : ℤ → Type 0
IsType (pos n) = n ≤ MOST_NUMBER
IsType (negsuc n) = n ≤ 2

-- a written type is read as that type
pub type_read : (row : ℕ) (kind : ℤ) → IsType kind → type_in row (Some (signed_decimal kind)) ≡ Ok kind
type_read row (pos n) h =
    rw (trimmed_digits (decimal n) (digits_of_decimal n), type_of_digits (decimal n) (digits_of_decimal n) (few_digits n h).some, whole_read n h) refl
type_read row (negsuc n) h =
    let k : n ≤ 2 = h in
    rw (trimmed_none (45 ∷ decimal (suc n)) (blanks_in_digits (decimal (suc n)) (digits_of_decimal (suc n))), whole_read (suc n) (omega arith), le-leb n 2 k) refl

-- the parent of a row, if it has one
abbrev pub IsParent : Option ℕ → Type 0
IsParent None = Unit {0}
IsParent (Some n) = n ≤ MOST_NUMBER

-- a number that is read in one byte or more is the parent
parent_of_digits : (row n : ℕ) (text : List ℕ) → 0 < length text → number_in row 9 MOST_NUMBER (Some text) ≡ Ok n → parent_in row (Some text) ≡ Ok (Some n)
parent_of_digits row n [] some e = absurd (omega arith)
parent_of_digits row n (c ∷ text) some e = rw e refl

-- a written parent is read as that parent
pub parent_read : (row : ℕ) (parent : Option ℕ) → IsParent parent → parent_in row (Some (number_or_none parent)) ≡ Ok parent
parent_read row None h = refl
parent_read row (Some n) h = parent_of_digits row n (decimal n) (few_digits n h).some (number_read row 9 MOST_NUMBER n h (omega arith))

-- a row whose fields can be read again
pub record IsRowInRange (r : Row) : Type 0 where
  pub plate : r.plate ≤ MOST_NUMBER
  pub node : r.node ≤ MOST_NUMBER
  pub x : r.x ≤ MOST_SIDE
  pub y : r.y ≤ MOST_SIDE
  pub width : r.width ≤ MOST_SIDE
  pub height : r.height ≤ MOST_SIDE
  pub kind : IsType r.kind
  pub cut : r.cut ≤ 4
  pub parent : IsParent r.parent

-- the fields of a row are that row
pub row_read : (row : ℕ) (r : Row) → IsRowInRange r → row_in row (row_fields r) ≡ Ok r
unfolding row_in field_at
row_read row r h =
    rw (
      number_read row 1 MOST_NUMBER r.plate h.plate (omega arith),
      number_read row 2 MOST_NUMBER r.node h.node (omega arith),
      number_read row 3 MOST_SIDE r.x h.x (omega arith),
      number_read row 4 MOST_SIDE r.y h.y (omega arith),
      number_read row 5 MOST_SIDE r.width h.width (omega arith),
      number_read row 6 MOST_SIDE r.height h.height (omega arith),
      type_read row r.kind h.kind,
      number_read row 8 4 r.cut h.cut (omega arith),
      parent_read row r.parent h.parent,
    ) refl
