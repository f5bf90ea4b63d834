-- The widths of an instance's plates from one of them on.
use Rattle.std.specs.Prelude.{◌≡◌, ℕ, ◌+◌, ◌-◌, ◌<◌, List, length, slice_index}
use Rattle.glass_base.specs.Plates.{Width}
use Rattle.glass_base.specs.Problem.{Problem}

pub record AreWidthsFrom (b : Problem) (k : ℕ) (widths : List ℕ) : Type 0 where
  pub many : length widths ≡ b.params.plates - k
  pub each : (plate : ℕ) → plate < length widths → slice_index widths plate ≡ Width b (plate + k)
