-- A tree that has the shape of plates is that of a plan.
use Rattle.std.proofs.Common.{◌≡◌, ℕ, List, [], ◌∷◌, refl, sym, ◌∙◌}
use Rattle.cut_model.specs.declared.plan.Plan.{Plan}
use Rattle.cut_model.specs.declared.plan.Plate.{Plate}
use Rattle.cut_model.specs.declared.plan.Piece1.{Piece1}
use Rattle.cut_model.specs.declared.plan.Piece2.{Piece2}
use Rattle.cut_model.specs.declared.plan.Piece3.{Piece3}
use Rattle.cut_model.specs.declared.plan.Leaf4.{Leaf4}
use Rattle.cut_model.specs.declared.plan.Body1.{Body1}
use Rattle.cut_model.specs.declared.plan.Body2.{Body2}
use Rattle.cut_model.specs.declared.plan.Body3.{Body3}
use Rattle.cut_model.specs.declared.plan.Body4.{Body4}
use Rattle.cut_model.specs.declared.plan.Body1.TheVariants as b1
use Rattle.cut_model.specs.declared.plan.Body2.TheVariants as b2
use Rattle.cut_model.specs.declared.plan.Body3.TheVariants as b3
use Rattle.cut_model.specs.declared.plan.Body4.TheVariants as b4
use Rattle.cut_model.specs.declared.family.Sort.{Sort}
use Rattle.cut_model.specs.Tree.{Forest, nothing, piece, sort1, sort2, sort3, sort4, inner1, inner2, inner3, leaves, cells, bands, strips, plates_of, tree}
use Rattle.plan_trace.specs.inner.Shape.{IsPart, IsLeaf, AreLeaves, AreCells, AreBands, IsStripLike, AreStrips, ArePlates}
use Rattle.plan_trace.proofs.PlanShapes.{AreFlat}

abbrev leaf_body : Sort → Body4
leaf_body (Sort.Item number) = b4.Item number
leaf_body Sort.Waste = b4.Waste
leaf_body Sort.Branch = b4.Waste
leaf_body Sort.Residual = b4.Waste

abbrev leaf : ℕ → Sort → Leaf4
leaf size sort = record { height = size; body = leaf_body sort }

abbrev two : Forest → Body3
two (piece low s i (piece high t j later)) = b3.Two (leaf low s) (leaf high t)
two (piece low s i nothing) = b3.Waste
two nothing = b3.Waste

abbrev cell_body : Sort → Forest → Body3
cell_body (Sort.Item number) inner = b3.Item number
cell_body Sort.Waste inner = b3.Waste
cell_body Sort.Branch inner = two inner
cell_body Sort.Residual inner = b3.Waste

abbrev cells_of : Forest → List Piece3
cells_of nothing = []
cells_of (piece size sort inner later) = record { width = size; body = cell_body sort inner } ∷ cells_of later

abbrev band_body : Sort → Forest → Body2
band_body (Sort.Item number) inner = b2.Item number
band_body Sort.Waste inner = b2.Waste
band_body Sort.Branch inner = b2.Cut (record { items = cells_of inner; spare = 0 })
band_body Sort.Residual inner = b2.Waste

abbrev bands_of : Forest → List Piece2
bands_of nothing = []
bands_of (piece size sort inner later) = record { height = size; body = band_body sort inner } ∷ bands_of later

abbrev strip_body : Sort → Forest → Body1
strip_body (Sort.Item number) inner = b1.Item number
strip_body Sort.Waste inner = b1.Waste
strip_body Sort.Branch inner = b1.Cut (record { items = bands_of inner; spare = 0 })
strip_body Sort.Residual inner = b1.Residual

abbrev strips_of : Forest → List Piece1
strips_of nothing = []
strips_of (piece size sort inner later) = record { width = size; body = strip_body sort inner } ∷ strips_of later

abbrev plates_in : Forest → List Plate
plates_in nothing = []
plates_in (piece size sort inner later) = record { pieces = record { items = strips_of inner; spare = 0 } } ∷ plates_in later

-- the plan that has this tree
abbrev pub planned : Forest → Plan
planned forest = record { plates = record { items = plates_in forest; spare = 0 } }

leaf_back : (sort : Sort) (inner : Forest) → IsLeaf sort inner → (sort4 (leaf_body sort) ≡ sort) × (inner ≡ nothing)
leaf_back (Sort.Item number) inner shape = (refl, shape)
leaf_back Sort.Waste inner shape = (refl, shape)
leaf_back Sort.Branch inner shape = absurd shape
leaf_back Sort.Residual inner shape = absurd shape

cell_back : (sort : Sort) (inner : Forest) → IsPart AreLeaves sort inner → (sort3 (cell_body sort inner) ≡ sort) × (inner3 (cell_body sort inner) ≡ inner)
cell_back (Sort.Item number) inner shape = (refl, sym shape)
cell_back Sort.Waste inner shape = (refl, sym shape)
cell_back Sort.Branch nothing shape = absurd shape
cell_back Sort.Branch (piece low s i nothing) shape = absurd shape
cell_back Sort.Branch (piece low s i (piece high t j nothing)) shape =
    let below = leaf_back s i shape.0 in
    let above = leaf_back t j shape.1 in
    let first : leaves (leaf low s ∷ leaf high t ∷ []) ≡ piece low s nothing (piece high t nothing nothing) = rw (below.0, above.0) refl in
    (refl, first ∙ rw (below.1, above.1) refl)
cell_back Sort.Branch (piece low s i (piece high t j (piece n u k l))) shape = absurd shape
cell_back Sort.Residual inner shape = absurd shape

cells_back : (forest : Forest) → AreCells forest → cells (cells_of forest) ≡ forest
cells_back nothing shape = refl
cells_back (piece size sort inner later) shape =
    let here = cell_back sort inner shape.0 in
    let rest : cells (cells_of later) ≡ later = cells_back later shape.1 in
    rw (here.0, here.1, rest) refl

band_back : (sort : Sort) (inner : Forest) → IsPart AreCells sort inner → (sort2 (band_body sort inner) ≡ sort) × (inner2 (band_body sort inner) ≡ inner)
band_back (Sort.Item number) inner shape = (refl, sym shape)
band_back Sort.Waste inner shape = (refl, sym shape)
band_back Sort.Branch inner shape = (refl, cells_back inner shape)
band_back Sort.Residual inner shape = absurd shape

bands_back : (forest : Forest) → AreBands forest → bands (bands_of forest) ≡ forest
bands_back nothing shape = refl
bands_back (piece size sort inner later) shape =
    let here = band_back sort inner shape.0 in
    let rest : bands (bands_of later) ≡ later = bands_back later shape.1 in
    rw (here.0, here.1, rest) refl

strip_back : (sort : Sort) (inner : Forest) → IsStripLike sort inner → (sort1 (strip_body sort inner) ≡ sort) × (inner1 (strip_body sort inner) ≡ inner)
strip_back (Sort.Item number) inner shape = (refl, sym shape)
strip_back Sort.Waste inner shape = (refl, sym shape)
strip_back Sort.Residual inner shape = (refl, sym shape)
strip_back Sort.Branch inner shape = (refl, bands_back inner shape)

strips_back : (forest : Forest) → AreStrips forest → strips (strips_of forest) ≡ forest
strips_back nothing shape = refl
strips_back (piece size sort inner later) shape =
    let here = strip_back sort inner shape.0 in
    let rest : strips (strips_of later) ≡ later = strips_back later shape.1 in
    rw (here.0, here.1, rest) refl

plates_back : (forest : Forest) → ArePlates forest → AreFlat forest → plates_of (plates_in forest) ≡ forest
plates_back nothing shape flat = refl
plates_back (piece size (Sort.Item number) inner later) shape flat = absurd shape.0
plates_back (piece size Sort.Waste inner later) shape flat = absurd shape.0
plates_back (piece size Sort.Residual inner later) shape flat = absurd shape.0
plates_back (piece size Sort.Branch inner later) shape flat =
    let rest : plates_of (plates_in later) ≡ later = plates_back later shape.1 flat.1 in
    rw (strips_back inner shape.0, rest, flat.0) refl

-- a tree of this shape is that of its plan
pub tree_planned : (forest : Forest) → ArePlates forest → AreFlat forest → tree (planned forest) ≡ forest
tree_planned forest shape flat = plates_back forest shape flat
