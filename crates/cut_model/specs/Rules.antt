-- The rules on cuts, each as a fact about one piece with its children and its neighbours.
use Rattle.std.specs.Prelude.{◌≡◌, ◌+◌, ◌<◌, ◌≤◌, ◌⊎◌, List, All, IsTrue, IfSome, true, false}
use Rattle.glass_base.specs.declared.params.Params.{Params}
use Rattle.glass_base.specs.declared.item.Item.{Item}
use Rattle.glass_base.specs.declared.item.Defect.{Defect}
use Rattle.glass_base.specs.Defects.{hits, crosses_x, crosses_y}
use Rattle.glass_base.specs.Problem.{Problem}
use Rattle.cut_model.specs.declared.family.Row.{Row}
use Rattle.cut_model.specs.declared.family.Sort.{Sort}
use Rattle.cut_model.specs.declared.family.Along.{Along}
use Rattle.cut_model.specs.declared.family.Family.{Family}
use Rattle.cut_model.specs.Families.{turned, side_along}
use Rattle.cut_model.specs.Order.{item_with}

-- L1: a plate, and a piece that is cut, has a child, and its children's sizes add up to its own in the direction of the cut
abbrev pub AddsUp : Family → Sort → Type 0
AddsUp f Sort.Branch = (f.children.empty ≡ false) × (f.children.total ≡ side_along (turned f.along) f.row)
AddsUp f _ = Unit {0}

-- the row has the item's sides, in one of the two turns
abbrev pub IsTurnOf : Row → Item → Type 0
IsTurnOf row item =
    ((row.width ≡ item.length) × (row.height ≡ item.width)) ⊎ ((row.width ≡ item.width) × (row.height ≡ item.length))

-- L2: an item piece has its item's sides; an item that is not in the batch is a matter of L9
abbrev pub HasItsSides : List Item → Family → Sort → Type 0
HasItsSides items f (Sort.Item number) = IfSome (item_with items number) (IsTurnOf f.row)
HasItsSides items f _ = Unit {0}

-- L3: both sides of a waste, and the width of the residual, are at least the least waste
abbrev pub IsBroad : Params → Family → Sort → Type 0
IsBroad p f Sort.Waste = (p.waste ≤ f.row.width) × (p.waste ≤ f.row.height)
IsBroad p f Sort.Residual = p.waste ≤ f.row.width
IsBroad p f _ = Unit {0}

-- a piece of a 1-cut has the width of a strip
abbrev pub HasStripWidth : Params → Row → Type 0
HasStripWidth p row = row.cut ≡ 1 → (p.min1 ≤ row.width) × (row.width ≤ p.max1)

-- L4: so has every piece of a 1-cut that is neither waste nor residual
abbrev pub IsStrip : Params → Family → Sort → Type 0
IsStrip p f Sort.Waste = Unit {0}
IsStrip p f Sort.Residual = Unit {0}
IsStrip p f _ = HasStripWidth p f.row

-- a piece of a 2-cut has the height of a band
abbrev pub HasBandHeight : Params → Row → Type 0
HasBandHeight p row = row.cut ≡ 2 → p.min2 ≤ row.height

-- L5: so has every piece of a 2-cut that is no waste
abbrev pub IsBand : Params → Family → Sort → Type 0
IsBand p f Sort.Waste = Unit {0}
IsBand p f Sort.Residual = Unit {0}
IsBand p f _ = HasBandHeight p f.row

-- L6: a piece that is cut by a 4-cut holds an item, and a residual is the last piece of a 1-cut on the last plate
abbrev pub IsInPlace : Family → Sort → Type 0
IsInPlace f Sort.Branch = f.row.cut ≡ 3 → f.children.has_item ≡ true
IsInPlace f Sort.Residual = (f.row.cut ≡ 1) × (f.ends ≡ true)
IsInPlace f _ = Unit {0}

-- the inside of the row, where it has one, meets the inside of no defect
abbrev pub IsSound : List Defect → Row → Type 0
IsSound defects row =
    0 < row.width → 0 < row.height
    → All (λ d. ¬ IsTrue (hits row.plate row.x row.y (row.x + row.width) (row.y + row.height) d)) defects

-- L7: the inside of no item meets a defect of its plate
abbrev pub AvoidsDefects : List Defect → Family → Sort → Type 0
AvoidsDefects defects f (Sort.Item _) = IsSound defects f.row
AvoidsDefects defects f _ = Unit {0}

-- the border to the neighbour before a row, where it has a length, runs through the inside of no defect
abbrev pub HasClearBorder : List Defect → Along → Row → Type 0
HasClearBorder defects Along.Plates row = Unit {0}
HasClearBorder defects Along.X row =
    0 < row.height → All (λ d. ¬ IsTrue (crosses_x row.plate row.x row.y (row.y + row.height) d)) defects
HasClearBorder defects Along.Y row =
    0 < row.width → All (λ d. ¬ IsTrue (crosses_y row.plate row.y row.x (row.x + row.width) d)) defects

-- L8: no border between two neighbouring children runs through the inside of a defect
abbrev pub CutsClear : List Defect → Family → Type 0
CutsClear defects f = f.first ≡ false → HasClearBorder defects f.along f.row

-- the rules L1 to L8 at one piece
pub record KeepsCutRules (b : Problem) (f : Family) : Type 0 where
  pub l1 : AddsUp f f.sort
  pub l2 : HasItsSides b.items f f.sort
  pub l3 : IsBroad b.params f f.sort
  pub l4 : IsStrip b.params f f.sort
  pub l5 : IsBand b.params f f.sort
  pub l6 : IsInPlace f f.sort
  pub l7 : AvoidsDefects b.defects f f.sort
  pub l8 : CutsClear b.defects f
