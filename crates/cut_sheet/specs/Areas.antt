-- The glass that a sheet uses, and what of it is waste.
use Rattle.std.specs.Prelude.{◌≡◌, ℕ, ℤ, pos, negsuc, zero, suc, ◌*◌, ◌≤◌, List, Bool, true, false, count_by}
use Rattle.std.specs.List.{sum_by}
use Rattle.glass_base.specs.Plates.{Before}
use Rattle.glass_base.specs.Problem.{Problem}
use Rattle.cut_sheet.specs.declared.instr.Instr.{Instr}
use Rattle.cut_sheet.specs.declared.instr.Made.{Made}

-- the area of a piece, in mm²
abbrev pub area : Made → ℕ
area m = m.width * m.height

-- the areas of some pieces, together
abbrev pub made_area : List Made → ℕ
made_area made = sum_by area made

-- the area, where the type is that of a waste
abbrev pub area_wasted : ℤ → ℕ → ℕ
area_wasted (negsuc zero) area = area
area_wasted (negsuc (suc _)) area = 0
area_wasted (pos _) area = 0

abbrev pub wasted : Made → ℕ
wasted m = area_wasted m.kind (area m)

-- the areas of the wastes, together
abbrev pub waste_area : List Made → ℕ
waste_area made = sum_by wasted made

-- whether an instruction cuts a part off
abbrev pub is_cut : Instr → Bool
is_cut (Instr.Off _) = true
is_cut (Instr.Load _) = false
is_cut Instr.Whole = false
is_cut (Instr.Done _) = false

-- how many cuts a sheet makes
abbrev pub cut_count : List Instr → ℕ
cut_count sheet = count_by is_cut sheet

-- the pieces make up this many plates, the first ones
pub record MakesUp (b : Problem) (made : List Made) : Type 0 where
  pub plates : ℕ
  pub few : plates ≤ b.params.plates
  pub glass : made_area made ≡ b.params.height * Before b plates
