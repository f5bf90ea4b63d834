-- The text of a sheet.
use Rattle.std.specs.Prelude.{ℕ, ℤ, pos, negsuc, ◌≡◌, ◌⊎◌, ◌≤◌, List, [], ◌∷◌, ◌++◌, codes}
use Rattle.std.specs.Fmt.{signed_decimal}
use Rattle.std.specs.List.{flat_map}
use Rattle.cut_sheet.specs.declared.instr.Instr.{Instr}
use Rattle.glass_base.specs.declared.limits.TheConstants.{MOST_NUMBER, MOST_SIDE}

-- the first line
abbrev pub head : List ℕ
head = codes "glasssheet;1\n"

-- the line of an instruction: a letter, and behind a semicolon its number, if it has one
abbrev pub letter_line : List ℕ → ℤ → List ℕ
letter_line letter number = letter ++ (codes ";" ++ (signed_decimal number ++ codes "\n"))

abbrev pub instr_line : Instr → List ℕ
instr_line (Instr.Load plate) = letter_line (codes "L") (pos plate)
instr_line (Instr.Off size) = letter_line (codes "K") (pos size)
instr_line Instr.Whole = codes "T\n"
instr_line (Instr.Done kind) = letter_line (codes "D") kind

-- the lines of some instructions
abbrev pub lines_text : List Instr → List ℕ
lines_text sheet = flat_map instr_line sheet

-- the whole text
abbrev pub sheet_text : List Instr → List ℕ
sheet_text sheet = head ++ lines_text sheet

-- a type that a piece on a sheet may have: an item's number, -1 for a waste, -3 for the residual
abbrev pub IsPieceType : ℤ → Type 0
IsPieceType (pos number) = number ≤ MOST_NUMBER
IsPieceType (negsuc below) = (below ≡ 0) ⊎ (below ≡ 2)

-- an instruction whose number a text may have
abbrev pub IsWritable : Instr → Type 0
IsWritable (Instr.Load plate) = plate ≤ 999
IsWritable (Instr.Off size) = size ≤ MOST_SIDE
IsWritable Instr.Whole = Unit {0}
IsWritable (Instr.Done kind) = IsPieceType kind
