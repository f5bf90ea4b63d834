-- What comes of reading a text: the sheet whose text it is, or its first refusal.
use Rattle.std.specs.Prelude.{◌≡◌, ℕ, ◌+◌, List, [], ◌++◌, length, All, Result, Ok, Err}
use Rattle.glass_base.specs.Run.{Listed}
use Rattle.cut_sheet.specs.declared.bad_sheet.BadSheet.{BadSheet}
use Rattle.cut_sheet.specs.declared.bad_sheet.BadSheet.TheVariants as bad
use Rattle.cut_sheet.specs.declared.instr.Instr.{Instr}
use Rattle.cut_sheet.specs.Texts.{IsWritable, head, instr_line, lines_text, sheet_text}

-- the text is that of this sheet
pub record IsText (text : List ℕ) (sheet : List Instr) : Type 0 where
  pub writable : All IsWritable sheet
  pub text_is : text ≡ sheet_text sheet

-- the text does not begin with the head
abbrev pub NoHead : List ℕ → Type 0
NoHead text = (rest : List ℕ) → text ≡ head ++ rest → ⊥

-- the text does not begin with the line of an instruction
abbrev pub NoLine : List ℕ → Type 0
NoLine text = (instr : Instr) (rest : List ℕ) → IsWritable instr → text ≡ instr_line instr ++ rest → ⊥

-- behind the head and some lines something stands that is no line
pub record IsBadLine (text : List ℕ) (line : ℕ) : Type 0 where
  pub sheet : List Instr
  pub rest : List ℕ
  pub writable : All IsWritable sheet
  pub text_is : text ≡ head ++ (lines_text sheet ++ rest)
  pub some : rest ≡ [] → ⊥
  pub none : NoLine rest
  pub line_is : line ≡ length sheet + 2

-- the sheet that the text says, or its first refusal
abbrev pub IsReading : List ℕ → Result (List Instr) BadSheet → Type 0
IsReading text (Ok sheet) = IsText text sheet
IsReading text (Err bad.Memory) = Unit {0}
IsReading text (Err bad.Head) = NoHead text
IsReading text (Err (bad.Line line)) = IsBadLine text line

-- what was read, as a list
abbrev pub items_read : Result (Listed Instr) BadSheet → Result (List Instr) BadSheet
items_read (Ok sheet) = Ok sheet.items
items_read (Err reason) = Err reason
