-- What leads on from a row, said of fronts.
use Rattle.std.specs.Prelude.{◌≡◌, ℕ, ◌+◌, ◌*◌, ◌<◌, ◌≤◌, List, [], ◌∷◌, Contains}
use Rattle.glass_base.specs.declared.item.Item.{Item}
use Rattle.glass_base.specs.Problem.{Problem}
use Rattle.front_course.specs.Fronts.{Front, next}
use Rattle.front_course.specs.Cells.{Cell, pick_width, pick_height, CanStand, after_cell, cell_width, after_cells}
use Rattle.front_course.specs.Cells.Cell.{alone, pair}
use Rattle.front_course.specs.Strips.{Band, IsBand}
use Rattle.front_table.specs.declared.moves.Move.{Move}
use Rattle.front_table.specs.declared.rows.FrontRow.{FrontRow}
use Rattle.front_table.specs.Sets.{Fits}
use Rattle.front_table.specs.Lattice.{At, area_at, moves_at, links_at}

-- the area of a cell's items, and of those of cells one behind the other
abbrev pub cell_area : Problem → Front → Cell → ℕ
cell_area b f (alone p) = pick_width b f p * pick_height b f p
cell_area b f (pair p q) = pick_width b f p * pick_height b f p + pick_width b (next f p.stack) q * pick_height b (next f p.stack) q

abbrev pub cells_area : Problem → Front → List Cell → ℕ
cells_area b f [] = 0
cells_area b f (c ∷ cells) = cell_area b f c + cells_area b (after_cell f c) cells

-- how high a cell's items stand
abbrev pub cell_height : Problem → Front → Cell → ℕ
cell_height b f (alone p) = pick_height b f p
cell_height b f (pair p q) = pick_height b f p + pick_height b (next f p.stack) q

-- one of the moves from a row leads to the row of a front, by these sizes, with items of this area
pub record Moved (b : Problem) (rows : List FrontRow) (n : ℕ) (moves : List Move) (to : Front) (along across area : ℕ) : Type 0 where
  pub move : Move
  pub has : Contains moves move
  pub at : At b rows move.to to
  pub down : move.to < n
  pub fits : Fits move.label along across
  pub left : area_at rows n ≡ area_at rows move.to + area

-- one of the links leads to the row at which one item more is taken
pub record Linked (b : Problem) (rows : List FrontRow) (n : ℕ) (f : Front) (stack : ℕ) (item : Item) : Type 0 where
  pub to : ℕ
  pub has : Contains (links_at rows n) to
  pub at : At b rows to (next f stack)
  pub down : to < n
  pub left : area_at rows n ≡ area_at rows to + item.length * item.width

-- the moves of a row are all cells from there on
abbrev pub CellsLead : Problem → List FrontRow → Type 0
CellsLead b rows = (n : ℕ) (f : Front) → At b rows n f → (high : ℕ) (cell : Cell) → CanStand b high f cell → Moved b rows n (moves_at rows n) (after_cell f cell) (cell_width b f cell) high (cell_area b f cell)

-- these are all bands from a row on: along is their height, across the width of a strip
abbrev pub BandsLead : Problem → List FrontRow → ℕ → List Move → Type 0
BandsLead b rows n bands = (f : Front) → At b rows n f → (width : ℕ) (band : Band) → width ≤ b.params.max1 → band.high ≤ b.params.height → IsBand b width f band →
    Moved b rows n bands (after_cells f band.cells) band.high width (cells_area b f band.cells)
