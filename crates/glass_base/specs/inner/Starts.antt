-- Where plates begin, laid side by side.
use Rattle.std.specs.Prelude.{◌≡◌, ℕ, ◌+◌, ◌≤◌, List, length, slice_index, sum, take}

-- the widths before each plate, together, and those of all plates
pub record AreStarts (widths starts : List ℕ) : Type 0 where
  pub many : length starts ≡ length widths + 1
  pub each : (plate : ℕ) → plate ≤ length widths → slice_index starts plate ≡ sum (take plate widths)
