-- What a fetch answers.
use Rattle.std.specs.Prelude.{◌≡◌, ◌<◌, ◌≤◌, ℕ, List, length, Option, Some, None}
use Rattle.glass_io.specs.Told.{Contents}
use Rattle.glass_io.specs.declared.files.Fetched.{Fetched}
use Rattle.glass_io.specs.declared.files.Fetched.TheVariants.{Bytes, Absent, TooLong}

-- what is held under a name, and what was found there
abbrev pub IsFound : Option (List ℕ) → ℕ → Fetched → Type 0
IsFound None limit (Bytes v) = ⊥
IsFound None limit Absent = Unit {0}
IsFound None limit TooLong = ⊥
IsFound (Some bytes) limit (Bytes v) = (v.items ≡ bytes) × (length bytes ≤ limit)
IsFound (Some bytes) limit Absent = ⊥
IsFound (Some bytes) limit TooLong = limit < length bytes

abbrev pub TellsFile : Option Contents → List ℕ → ℕ → Fetched → Type 0
TellsFile None name limit found = Unit {0}
TellsFile (Some contents) name limit found = IsFound (contents name) limit found
