-- The solution text of a plan.
use Rattle.std.specs.Prelude.{ℕ, List, [], ◌∷◌, ◌++◌, codes}
use Rattle.std.specs.Fmt.{decimal, signed_decimal}
use Rattle.std.specs.List.{flat_map}
use Rattle.glass_base.specs.Problem.{Problem}
use Rattle.cut_model.specs.Tree.{Forest}
use Rattle.cut_model.specs.declared.family.Row.{Row}
use Rattle.cut_model.specs.Families.{rows_of}
use Rattle.csv_table.specs.Lines.{line_of, number_or_none}

-- the names of the columns
abbrev pub header : List ℕ
header = codes "PLATE_ID;NODE_ID;X;Y;WIDTH;HEIGHT;TYPE;CUT;PARENT\n"

-- the fields of a row; the parent of a plate is empty
abbrev pub row_fields : Row → List (List ℕ)
row_fields r =
    decimal r.plate
    ∷ decimal r.node
    ∷ decimal r.x
    ∷ decimal r.y
    ∷ decimal r.width
    ∷ decimal r.height
    ∷ signed_decimal r.kind
    ∷ decimal r.cut
    ∷ number_or_none r.parent
    ∷ []

-- the line of a row
abbrev pub row_line : Row → List ℕ
row_line r = line_of (row_fields r)

abbrev pub rows_text : List Row → List ℕ
rows_text rows = flat_map row_line rows

-- the names of the columns and the lines of the plan's rows
abbrev pub solution_text : Problem → Forest → List ℕ
solution_text b plan = header ++ rows_text (rows_of b plan)
