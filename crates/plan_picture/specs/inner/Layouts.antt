-- Where the plates of a picture stand.
use Rattle.std.specs.Prelude.{◌≡◌, ℕ, ◌+◌, ◌*◌, ◌≤◌}
use Rattle.plan_picture.specs.Told.{Group}
use Rattle.glass_base.specs.declared.limits.TheConstants.{MOST_SIDE}

-- the sizes of a picture whose parts are higher than a plate of this height
pub record IsLayout (size lines height : ℕ) : Type 0 where
  pub some : 1 ≤ size
  pub small : size ≤ 501
  pub few_lines : lines ≤ 20008
  pub height_limit : height ≤ MOST_SIDE
  pub apart : height ≤ size * lines

-- where the lower side of a plate stands
abbrev pub bottom_at : ℕ → ℕ → ℕ → ℕ → ℕ
bottom_at size lines height plate = size * (lines * plate + 6) + height

-- a group stands where the sizes say
abbrev pub IsPlaced : ℕ → ℕ → ℕ → Group → Type 0
IsPlaced size lines height g = g.y ≡ bottom_at size lines height g.number
