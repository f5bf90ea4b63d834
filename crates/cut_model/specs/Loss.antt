-- What a plan loses.
use Rattle.std.specs.Prelude.{ℕ, ℤ, negsuc, zero, ◌+◌, ◌*◌, List, [], ◌∷◌, Bool, find}
use Rattle.std.specs.Option.{option_map_or}
use Rattle.glass_base.specs.Problem.{Problem}
use Rattle.cut_model.specs.declared.family.Row.{Row}
use Rattle.cut_model.specs.Families.{rows_of}
use Rattle.cut_model.specs.Tree.{Forest, is_residual, sort_named}

-- the area of a row, in mm², where its type is that of a waste
abbrev pub area_wasted : ℤ → Row → ℕ
area_wasted (negsuc zero) row = row.width * row.height
area_wasted _ row = 0

-- the areas of the wastes, together
abbrev pub waste_of : List Row → ℕ
waste_of [] = 0
waste_of (row ∷ rows) = area_wasted row.kind row + waste_of rows

-- what a plan loses, in mm²
abbrev pub loss_of : Problem → Forest → ℕ
loss_of b plan = waste_of (rows_of b plan)

-- whether the type of a row is that of the residual
abbrev pub names_residual : ℤ → Bool
names_residual kind = is_residual (sort_named kind)

-- the width of a plan's residual in mm, 0 where no piece is named so
abbrev pub residual_width : Problem → Forest → ℕ
residual_width b plan = option_map_or (λ row. row.width) (find (λ row. names_residual row.kind) (rows_of b plan)) 0
