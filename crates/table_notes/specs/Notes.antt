-- What is noted of a table: each begins with a header, which is not read.
use Rattle.std.specs.Prelude.{◌==◌, ◌||◌, ℕ, List, [], ◌∷◌, Bool, true, false, not, drop, take, is_ok, if◌then◌else◌, Option, Some, None, Result, Ok}
use Rattle.std.specs.List.{list_any, prefix_len}
use Rattle.glass_base.specs.declared.bad_text.BadText.{BadText}
use Rattle.glass_base.specs.declared.role.Role.{Role}
use Rattle.glass_base.specs.declared.role.Role.TheVariants as role
use Rattle.csv_table.specs.Rows.{table_rows}
use Rattle.batch_csv.specs.Batches.{item_at}
use Rattle.stock_csv.specs.DefectRows.{defect_at}
use Rattle.stock_csv.specs.PlateRows.{plate_at}
use Rattle.stock_csv.specs.Settings.{setting_at}
use Rattle.stock_csv.specs.declared.parameters.ParameterRow.{ParameterRow}
use Rattle.table_notes.specs.declared.notes.TableNote.{TableNote}
use Rattle.table_notes.specs.declared.notes.TableNote.TheVariants as note

-- a row sets a parameter
abbrev pub sets_one : Result (Option ParameterRow) BadText → Bool
sets_one (Ok (Some _)) = true
sets_one _ = false

-- fields are a row that is read of a table of this role
abbrev pub is_row : Role → List (List ℕ) → Bool
is_row role.Batch fields = is_ok (item_at 1 fields)
is_row role.Defects fields = is_ok (defect_at 1 fields)
is_row role.Params fields = sets_one (setting_at 1 fields)
is_row role.Plates fields = is_ok (plate_at 1 fields)
is_row _ fields = false

-- the files whose header is not read
abbrev pub is_table : Role → Bool
is_table role.Batch = true
is_table role.Defects = true
is_table role.Params = true
is_table role.Plates = true
is_table _ = false

-- a line feed or a carriage return
abbrev pub ends_line : ℕ → Bool
ends_line byte = (byte == 10) || (byte == 13)

abbrev pub in_line : ℕ → Bool
in_line byte = not (ends_line byte)

-- a text from its first line on that is not empty, and that line
abbrev pub from_first_line : List ℕ → List ℕ
from_first_line text = drop (prefix_len ends_line text) text

abbrev pub first_line : List ℕ → List ℕ
first_line text = take (prefix_len in_line (from_first_line text)) (from_first_line text)

-- a text has more lines than one that are not empty
abbrev pub has_more_lines : List ℕ → Bool
has_more_lines text = list_any in_line (drop (prefix_len in_line (from_first_line text)) (from_first_line text))

-- what is noted of a table by its rows, and by whether it has more lines than one: that the first row, which is taken for
-- the header, is itself a row that would be read; or that all its lines are the header
abbrev pub noted : Role → Bool → List (List (List ℕ)) → Option TableNote
noted of more [] = None
noted of more (header ∷ []) = if is_row of header then Some note.HeaderIsRow else if more then Some note.NoRow else None
noted of more (header ∷ row ∷ rows) = if is_row of header then Some note.HeaderIsRow else None

-- what is noted of the text of a file of this role
abbrev pub note_of : Role → List ℕ → Option TableNote
note_of of text = if is_table of then noted of (has_more_lines text) (table_rows text) else None
