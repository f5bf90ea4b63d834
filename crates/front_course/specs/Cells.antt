-- Cells: one item, or two one over the other, in a band of some height.
use Rattle.std.specs.Prelude.{◌≡◌, ℕ, ◌+◌, ◌≤◌, ◌⊎◌, List, [], ◌∷◌, IsSome}
use Rattle.glass_base.specs.Problem.{Problem}
use Rattle.plan_trace.specs.Marks.{item_width, item_height}
use Rattle.front_course.specs.Fronts.{Front, next, next_item}

-- the next item of a stack, turned unless `turn` is 0
pub record Pick : Type 0 where
  pub stack : ℕ
  pub turn : ℕ

-- the sides of an item as it lies
abbrev pub pick_width : Problem → Front → Pick → ℕ
pick_width b f p = item_width p.turn (next_item b f p.stack)

abbrev pub pick_height : Problem → Front → Pick → ℕ
pick_height b f p = item_height p.turn (next_item b f p.stack)

abbrev pub IsThere : Problem → Front → Pick → Type 0
IsThere b f p = IsSome (next_item b f p.stack)

-- one item, or two of which the first lies under the second
pub data Cell : Type 0 where
  alone : Pick → Cell
  pair : Pick → Pick → Cell

abbrev pub after_cell : Front → Cell → Front
after_cell f (alone p) = next f p.stack
after_cell f (pair p q) = next (next f p.stack) q.stack

abbrev pub cell_width : Problem → Front → Cell → ℕ
cell_width b f (alone p) = pick_width b f p
cell_width b f (pair p q) = pick_width b f p

-- one item fills a height, or leaves a waste above or below
abbrev pub Stands : ℕ → ℕ → ℕ → ℕ → Type 0
Stands waste width height high = (height ≡ high) ⊎ ((height + waste ≤ high) × (waste ≤ width))

-- the cell can stand in a band of this height
abbrev pub CanStand : Problem → ℕ → Front → Cell → Type 0
CanStand b high f (alone p) = IsThere b f p × Stands b.params.waste (pick_width b f p) (pick_height b f p) high
CanStand b high f (pair p q) =
    IsThere b f p
    × IsThere b (next f p.stack) q
    × (pick_width b (next f p.stack) q ≡ pick_width b f p)
    × (pick_height b f p + pick_height b (next f p.stack) q ≡ high)

-- cells one behind the other
abbrev pub after_cells : Front → List Cell → Front
after_cells f [] = f
after_cells f (c ∷ cells) = after_cells (after_cell f c) cells

abbrev pub cells_width : Problem → Front → List Cell → ℕ
cells_width b f [] = 0
cells_width b f (c ∷ cells) = cell_width b f c + cells_width b (after_cell f c) cells

abbrev pub AllStand : Problem → ℕ → Front → List Cell → Type 0
AllStand b high f [] = Unit {0}
AllStand b high f (c ∷ cells) = CanStand b high f c × AllStand b high (after_cell f c) cells
