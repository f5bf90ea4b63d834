-- Places: where the items of a strip can lie around the defects of its plate.
use Rattle.std.specs.Prelude.{ℕ, ◌+◌, ◌<◌, ◌≤◌, List, [], ◌∷◌}
use Rattle.glass_base.specs.Plates.{Width}
use Rattle.glass_base.specs.Problem.{Problem}
use Rattle.defect_map.specs.Queries.{HitsNone, CrossesNoneX}
use Rattle.plan_trace.specs.TraceRules.{Gap}
use Rattle.front_course.specs.Fronts.{Front, next}
use Rattle.front_course.specs.Cells.{pick_width, pick_height, Cell, cell_width, after_cell, after_cells}
use Rattle.front_course.specs.Cells.Cell.{alone, pair}
use Rattle.front_course.specs.Strips.{Band}

-- an item of these sides can lie at `left` somewhere between two heights, and meets no defect there
abbrev pub HasPlace : Problem → ℕ → ℕ → ℕ → ℕ → ℕ → ℕ → Type 0
HasPlace b plate left low top width height =
    (bottom : ℕ) × (low ≤ bottom) × (bottom + height ≤ top) × HitsNone b.defects plate left bottom (left + width) (bottom + height)

-- the items of a cell at `left` in a band from `low` to `top`: of two, one lies on the other
abbrev pub HasPlaces : Problem → ℕ → ℕ → ℕ → ℕ → Front → Cell → Type 0
HasPlaces b plate left low top f (alone p) = HasPlace b plate left low top (pick_width b f p) (pick_height b f p)
HasPlaces b plate left low top f (pair p q) =
    let middle : ℕ = low + pick_height b f p in
    HasPlace b plate left low middle (pick_width b f p) (pick_height b f p)
    × HasPlace b plate left middle top (pick_width b (next f p.stack) q) (pick_height b (next f p.stack) q)

-- cells one behind the other, from `from` to `right`, with a gap before each and behind the last
abbrev pub CellPlaces : Problem → ℕ → ℕ → ℕ → Front → ℕ → ℕ → List Cell → Type 0
CellPlaces b plate low top f from right [] = Gap b.params.waste from right
CellPlaces b plate low top f from right (c ∷ cells) =
    (left : ℕ) × Gap b.params.waste from left × HasPlaces b plate left low top f c × CellPlaces b plate low top (after_cell f c) (left + cell_width b f c) right cells

-- bands one above the other in a strip, from `from` to the upper side of the plate, with a gap below each and above the last
abbrev pub BandPlaces : Problem → ℕ → ℕ → ℕ → Front → ℕ → List Band → Type 0
BandPlaces b plate left right f from [] = Gap b.params.waste from b.params.height
BandPlaces b plate left right f from (band ∷ bands) =
    (low : ℕ) × Gap b.params.waste from low × CellPlaces b plate low (low + band.high) f left right band.cells × BandPlaces b plate left right (after_cells f band.cells) (low + band.high) bands

-- where a strip begins or ends at `x`, inside a plate, the line from edge to edge runs through no defect
abbrev pub IsClearLine : Problem → ℕ → ℕ → Type 0
IsClearLine b plate x = 0 < x → x < Width b plate → CrossesNoneX b.defects plate x 0 b.params.height
