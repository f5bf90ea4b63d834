-- A piece of glass on the table, and what becomes of it.
use Rattle.std.specs.Prelude.{ℕ, ℤ, ◌+◌, ◌-◌, ◌%◌, ◌==◌, ◌≤◌, Bool, true, false, if◌then◌else◌}
use Rattle.cut_sheet.specs.declared.instr.Made.{Made}
use Rattle.cut_sheet.specs.declared.piece.Piece.{Piece}
use Rattle.glass_base.specs.declared.limits.TheConstants.{MOST_SIDE}

-- a piece is cut vertically at the levels 0 and 2, horizontally at 1 and 3
abbrev pub is_upright : ℕ → Bool
is_upright level = level % 2 == 0

-- the side along which parts are cut off
abbrev pub side_cut : Piece → ℕ
side_cut p = if is_upright p.level then p.width else p.height

-- all of it, as a piece of the next level of which nothing was cut off yet
abbrev pub deeper : Piece → Piece
deeper p = record p { level = p.level + 1; begun = false }

-- the part of this size, which is cut off at its left or lower end
abbrev pub cut_off : ℕ → Piece → Piece
cut_off size p = if is_upright p.level then record (deeper p) { width = size } else record (deeper p) { height = size }

-- what is left of it then
abbrev pub without : ℕ → Piece → Piece
without size p =
    if is_upright p.level then record p { x = p.x + size; width = p.width - size; begun = true }
    else record p { y = p.y + size; height = p.height - size; begun = true }

-- the piece once it has left the table as this type
abbrev pub made_as : ℤ → Piece → Made
made_as kind p = record { plate = p.plate; x = p.x; y = p.y; width = p.width; height = p.height; kind = kind; cut = p.level }

-- a piece lies on its plate, and has one of the five levels
pub record IsOnPlate (p : Piece) : Type 0 where
  pub right : p.x + p.width ≤ MOST_SIDE
  pub top : p.y + p.height ≤ MOST_SIDE
  pub level : p.level ≤ 4
