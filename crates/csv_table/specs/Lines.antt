-- The lines of a table.
use Rattle.std.specs.Prelude.{◌≡◌, ◌++◌, ℕ, List, [], ◌∷◌, Bool, Option, Some, Vec, false}
use Rattle.std.specs.Fmt.{decimal}
use Rattle.std.specs.List.{join_with_byte}
use Rattle.std.specs.Option.{option_map_or}
use Rattle.std.specs.declared.alloc.Global.{Global}
use Rattle.csv.specs.Writing.{default_writer, fields_written, has_written, needs_quotes, text_written, writer_setup}
use Rattle.csv.specs.declared.writer.Writer.{Writer}
use Rattle.csv.specs.declared.writer.WriterBuilder.{WriterBuilder}

-- lines as contracts see them: their text, and whether memory ran out, after which they are lost
pub record Written : Type 0 where
  pub text : List ℕ
  pub failed : Bool

-- fields between semicolons, and a line feed
abbrev pub line_of : List (List ℕ) → List ℕ
line_of fields = join_with_byte 59 fields ++ 10 ∷ []

-- a field without a number is empty
abbrev pub number_or_none : Option ℕ → List ℕ
number_or_none n = option_map_or decimal n []

-- how lines are written
abbrev pub semicolons : WriterBuilder
semicolons = record default_writer { delimiter = 59 }

-- a field that stands in a line as it is, without quotes
abbrev pub IsPlain : List ℕ → Type 0
IsPlain field = needs_quotes semicolons field ≡ false

abbrev pub ArePlain : List (List ℕ) → Type 0
ArePlain [] = Unit {0}
ArePlain (field ∷ fields) = IsPlain field × ArePlain fields

-- what a writer has written
abbrev pub text_in : Writer (Vec ℕ Global) → Option (List ℕ)
text_in w = text_written (λ v. Some v.items) w

-- these bytes were written
abbrev pub Wrote : Writer (Vec ℕ Global) → Writer (Vec ℕ Global) → List ℕ → Type 0
Wrote old new bytes = (text : List ℕ) → text_in old ≡ Some text → text_in new ≡ Some (text ++ bytes)

-- a writer that stands between two lines
pub record IsBetween (w : Writer (Vec ℕ Global)) : Type 0 where
  pub setup : writer_setup w ≡ semicolons
  pub fields : fields_written w ≡ 0
  pub none : has_written w ≡ false
