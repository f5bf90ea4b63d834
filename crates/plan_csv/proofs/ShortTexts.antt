-- The text of a writable plan is short: each row has nine fields of at most nine bytes.
use Rattle.std.proofs.Common.{◌≡◌, ◌≤◌, ◌+◌, ◌*◌, ℕ, suc, true, List, [], ◌∷◌, length, length-append, ◌∙◌, arith, rules, All}
use Rattle.std.proofs.lemmas.Fmt.{length-decimal-le}
use Rattle.std.proofs.lemmas.List.{length-map}
use Rattle.std.proofs.lemmas.List.Elements.{All-head, All-tail}
use Rattle.std.specs.Fmt.{decimal, signed_decimal}
use Rattle.std.specs.List.{join_with_byte}
use Rattle.std.specs.Prelude.{ℤ, pos, negsuc, Option, Some, None}
use Rattle.glass_base.specs.Problem.{Problem, IsProblem}
use Rattle.cut_model.specs.declared.family.Row.{Row}
use Rattle.cut_model.specs.declared.plan.Plan.{Plan}
use Rattle.cut_model.specs.Families.{families_of, first_plate, rows_of}
use Rattle.cut_model.specs.Sized.{on_plates}
use Rattle.cut_model.specs.Tree.{Forest, count, tree}
use Rattle.cut_model.proofs.Numbers.{length-families}
use Rattle.cut_model.proofs.OnPlates.{count-on_plates}
use Rattle.csv_table.specs.Lines.{number_or_none}
use Rattle.csv_table.proofs.DigitTexts.{few_digits}
use Rattle.plan_csv.specs.PlanTexts.{IsWritable}
use Rattle.plan_csv.specs.Solutions.{header, row_fields, row_line, rows_text, solution_text}
use Rattle.plan_csv.proofs.RowsInRange.{plan_rows_in_range}
use Rattle.plan_csv.proofs.WrittenNumbers.{IsParent, IsRowInRange, IsType}
use Rattle.glass_base.specs.declared.limits.TheConstants.{MOST_NUMBER}

-- each of these fields has at most nine bytes
abbrev AreShort : List (List ℕ) → Type 0
AreShort [] = Unit {0}
AreShort (field ∷ fields) = (length field ≤ 9) × AreShort fields

-- a number of at most nine digits
short_number : (n : ℕ) → n ≤ MOST_NUMBER → length (decimal n) ≤ 9
short_number n h = (few_digits n h).few

-- the type of a row
short_type : (kind : ℤ) → IsType kind → length (signed_decimal kind) ≤ 9
short_type (pos n) h = short_number n h
short_type (negsuc n) h =
    let small : n ≤ 2 = h in
    omega (arith, length-decimal-le 1 (suc n) (omega arith) (omega arith) (omega arith))

-- the parent of a row
short_parent : (parent : Option ℕ) → IsParent parent → length (number_or_none parent) ≤ 9
short_parent None h = omega arith
short_parent (Some n) h = short_number n h

-- the fields of a row
short_fields : (r : Row) → IsRowInRange r → AreShort (row_fields r)
short_fields r h = search (rules, short_number, short_type, short_parent, h.plate, h.node, h.x, h.y, h.width, h.height, h.kind, h.cut, h.parent)

-- short fields between semicolons have at most ten bytes each
short_joined : (fields : List (List ℕ)) → AreShort fields → length (join_with_byte 59 fields) ≤ 10 * length fields
short_joined [] h = omega arith
short_joined (field ∷ []) h = omega (arith, h.0)
short_joined (field ∷ next ∷ fields) h =
    let later = short_joined (next ∷ fields) h.1 in
    omega (arith, h.0, later, length-append field (59 ∷ join_with_byte 59 (next ∷ fields)))

-- the line of a row
short_line : (r : Row) → IsRowInRange r → length (row_line r) ≤ 100
short_line r h = omega (arith, short_joined (row_fields r) (short_fields r h), length-append (join_with_byte 59 (row_fields r)) (10 ∷ []))

-- the lines of rows
short_rows : (rows : List Row) → All IsRowInRange rows → length (rows_text rows) ≤ 100 * length rows
short_rows [] h = omega arith
short_rows (r ∷ rows) h =
    omega (arith, short_line r (All-head IsRowInRange r rows h), short_rows rows (All-tail IsRowInRange r rows h), length-append (row_line r) (rows_text rows))

-- a plan has as many rows as pieces
rows_counted : (b : Problem) (plan : Forest) → length (rows_of b plan) ≡ count plan
rows_counted b plan =
    length-map (families_of b plan) (λ f. f.row)
    ∙ length-families (first_plate b) true 0 (on_plates b plan)
    ∙ count-on_plates b plan

-- the text of a writable plan
pub short_text : (b : Problem) (plan : Plan) → IsProblem b → IsWritable b (tree plan) → length (solution_text b (tree plan)) ≤ 100 * (count (tree plan) + 1)
short_text b plan rules h =
    let rows : List Row = rows_of b (tree plan) in
    omega (
      arith,
      short_rows rows (plan_rows_in_range b plan rules h),
      rows_counted b (tree plan),
      length-append header (rows_text rows),
    )
