-- A plan on the plates of an instance: each plate gets its width for its size.
use Rattle.std.specs.Prelude.{ℕ, ◌+◌}
use Rattle.glass_base.specs.Plates.{Width}
use Rattle.glass_base.specs.Problem.{Problem}
use Rattle.cut_model.specs.Tree.{Forest, nothing, piece}

-- the plates from this number on
abbrev pub sized : Problem → ℕ → Forest → Forest
sized b plate nothing = nothing
sized b plate (piece size sort inner later) = piece (Width b plate) sort inner (sized b (plate + 1) later)

-- all plates of a plan
abbrev pub on_plates : Problem → Forest → Forest
on_plates b plan = sized b 0 plan
