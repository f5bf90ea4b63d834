-- Questions on defects: places that none stands in the way of, and, where a place is known by its range alone, a defect that stands
-- in the way at every place of the range.
use Rattle.std.specs.Prelude.{ℕ, ◌+◌, Bool, ◌==◌, ◌&&◌, nat_lt, List, IsTrue, All}
use Rattle.glass_base.specs.declared.item.Defect.{Defect}
use Rattle.glass_base.specs.Defects.{hits, crosses_x, crosses_y}

-- the inside of the rectangle meets the inside of no defect of the plate
abbrev pub HitsNone : List Defect → ℕ → ℕ → ℕ → ℕ → ℕ → Type 0
HitsNone defects plate x0 y0 x1 y1 = All (λ d. ¬ IsTrue (hits plate x0 y0 x1 y1 d)) defects

-- the upright line at x runs through the inside of no defect of the plate
abbrev pub CrossesNoneX : List Defect → ℕ → ℕ → ℕ → ℕ → Type 0
CrossesNoneX defects plate x y0 y1 = All (λ d. ¬ IsTrue (crosses_x plate x y0 y1 d)) defects

-- the level line at y runs through the inside of no defect of the plate
abbrev pub CrossesNoneY : List Defect → ℕ → ℕ → ℕ → ℕ → Type 0
CrossesNoneY defects plate y x0 x1 = All (λ d. ¬ IsTrue (crosses_y plate y x0 x1 d)) defects

-- the defect lies on this plate, and its inside meets the inside of a rectangle of width `w` and height `h`, wherever its lower
-- left corner lies from (x0, y0) to (x1, y1)
abbrev pub hits_all : ℕ → ℕ → ℕ → ℕ → ℕ → ℕ → ℕ → Defect → Bool
hits_all plate x0 x1 w y0 y1 h d =
    (d.plate == plate) && nat_lt x1 d.x1 && nat_lt d.x0 (x0 + w) && nat_lt y1 d.y1 && nat_lt d.y0 (y0 + h)

-- the defect lies on this plate, and the upright line from `from` to `to` runs through its inside at every x from x0 to x1
abbrev pub crosses_x_all : ℕ → ℕ → ℕ → ℕ → ℕ → Defect → Bool
crosses_x_all plate x0 x1 from to d =
    (d.plate == plate) && nat_lt d.x0 x0 && nat_lt x1 d.x1 && nat_lt from d.y1 && nat_lt d.y0 to

-- the defect lies on this plate, and the level line from `from` to `to` runs through its inside at every y from y0 to y1
abbrev pub crosses_y_all : ℕ → ℕ → ℕ → ℕ → ℕ → Defect → Bool
crosses_y_all plate y0 y1 from to d =
    (d.plate == plate) && nat_lt d.y0 y0 && nat_lt y1 d.y1 && nat_lt from d.x1 && nat_lt d.x0 to
