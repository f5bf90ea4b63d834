-- Bands by rising width of their strips.
use Rattle.std.specs.Prelude.{ℕ, ◌*◌, ◌-◌, ◌<◌, ◌≤◌, List, length, map, slice_index_or}
use Rattle.front_table.specs.declared.moves.Move.{Move}
use Rattle.front_table.specs.declared.rows.FrontRow.{FrontRow}
use Rattle.front_table.specs.Lattice.{area_at}

-- what a band leaves beside and over its cells at least, in a strip of this width
abbrev pub waste_of : List FrontRow → ℕ → ℕ → Move → ℕ
waste_of rows n top band = top * band.label.along.least - (area_at rows n - area_at rows band.to)

-- the least width of the strips of the band at a place
abbrev pub wide_in : List Move → ℕ → ℕ
wide_in bands i = slice_index_or (map (λ m. m.label.across.least) bands) i 0

unfoldable pub Rises : List Move → Type 0
Rises bands = (i j : ℕ) → i ≤ j → j < length bands → wide_in bands i ≤ wide_in bands j
