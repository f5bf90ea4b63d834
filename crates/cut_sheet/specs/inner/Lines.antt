-- Which line a text is, and which one it begins with.
use Rattle.std.specs.Prelude.{◌≡◌, ◌≢◌, ℕ, ℤ, pos, ◌≤◌, List, [], ◌∷◌, ◌++◌, All, Option, Some, None}
use Rattle.std.proofs.Common.{Bor}
use Rattle.std.specs.Fmt.{signed_decimal}
use Rattle.cut_sheet.specs.declared.instr.Instr.{Instr}
use Rattle.cut_sheet.specs.Readings.{NoHead, NoLine}
use Rattle.cut_sheet.specs.Texts.{IsPieceType, IsWritable, head, instr_line}

-- the text says this type, or none
abbrev pub Says : List ℕ → Option ℤ → Type 0
Says text (Some number) = IsPieceType number × (text ≡ signed_decimal number)
Says text None = (number : ℤ) → IsPieceType number → text ≡ signed_decimal number → ⊥

-- the text says this number, which is at most `most`, or none
abbrev pub Counts : ℕ → List ℕ → Option ℕ → Type 0
Counts most text (Some n) = (n ≤ most) × (text ≡ signed_decimal (pos n))
Counts most text None = (n : ℕ) → n ≤ most → text ≡ signed_decimal (pos n) → ⊥

-- a line without its line feed
abbrev pub body : Instr → List ℕ
body (Instr.Load plate) = 76 ∷ 59 ∷ signed_decimal (pos plate)
body (Instr.Off size) = 75 ∷ 59 ∷ signed_decimal (pos size)
body Instr.Whole = 84 ∷ []
body (Instr.Done kind) = 68 ∷ 59 ∷ signed_decimal kind

-- the text is this line without its line feed, or none
abbrev pub SaysLine : List ℕ → Option Instr → Type 0
SaysLine text (Some instr) = IsWritable instr × (text ≡ body instr)
SaysLine text None = (instr : Instr) → IsWritable instr → text ≡ body instr → ⊥

-- the text has no line feed
abbrev pub IsUnbroken : List ℕ → Type 0
IsUnbroken text = All (λ byte. byte ≢ 10) text

-- the text up to its first line feed, and behind it, or it has none
abbrev pub Breaks : List ℕ → Option (Bor (List ℕ) × Bor (List ℕ)) → Type 0
Breaks text (Some p) = IsUnbroken p.0.now × (text ≡ p.0.now ++ 10 ∷ p.1.now)
Breaks text None = IsUnbroken text

-- the text begins with the line of this instruction, or with none
abbrev pub BeginsWithLine : List ℕ → Option (Instr × Bor (List ℕ)) → Type 0
BeginsWithLine text (Some p) = IsWritable p.0 × (text ≡ instr_line p.0 ++ p.1.now)
BeginsWithLine text None = NoLine text

-- the text begins with the head, or not
abbrev pub BeginsWithHead : List ℕ → Option (Bor (List ℕ)) → Type 0
BeginsWithHead text (Some rest) = text ≡ head ++ rest.now
BeginsWithHead text None = NoHead text
