-- A text has one reading, and what is written is read again.
use Rattle.std.specs.Prelude.{◌≡◌, ◌≢◌, ℕ, List, All, Result, Ok, Err}
use Rattle.cut_sheet.specs.declared.bad_sheet.BadSheet.{BadSheet}
use Rattle.cut_sheet.specs.declared.bad_sheet.BadSheet.TheVariants as bad
use Rattle.cut_sheet.specs.declared.instr.Instr.{Instr}
use Rattle.cut_sheet.specs.Readings.{IsReading}
use Rattle.cut_sheet.specs.Texts.{IsWritable, sheet_text}

-- this sheet was read, or memory ran out
abbrev pub IsReadAgain : List Instr → Result (List Instr) BadSheet → Type 0
IsReadAgain sheet (Ok other) = other ≡ sheet
IsReadAgain sheet (Err reason) = reason ≡ bad.Memory

-- what is written is read again as the same sheet
abbrev pub RoundTrip : Type 0
RoundTrip = (sheet : List Instr) (read : Result (List Instr) BadSheet) → All IsWritable sheet → IsReading (sheet_text sheet) read → IsReadAgain sheet read

-- a text has one first refusal at the most, beside want of memory
abbrev pub OneRefusal : Type 0
OneRefusal = (text : List ℕ) (a b : BadSheet) → a ≢ bad.Memory → b ≢ bad.Memory → IsReading text (Err a) → IsReading text (Err b) → a ≡ b

-- a text that is a sheet's is refused for want of memory alone, and is that of no other sheet
abbrev pub OneReading : Type 0
OneReading = (text : List ℕ) (sheet : List Instr) (read : Result (List Instr) BadSheet) → IsReading text (Ok sheet) → IsReading text read → IsReadAgain sheet read
