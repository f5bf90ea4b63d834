-- The tree of each plan has the shape of a plan.
use Rattle.std.proofs.Common.{◌≡◌, ◌≤◌, ℕ, List, [], ◌∷◌, refl, sym, subst, arith}
use Rattle.cut_model.specs.declared.plan.Plan.{Plan}
use Rattle.cut_model.specs.declared.plan.Plate.{Plate}
use Rattle.cut_model.specs.declared.plan.Piece1.{Piece1}
use Rattle.cut_model.specs.declared.plan.Piece2.{Piece2}
use Rattle.cut_model.specs.declared.plan.Piece3.{Piece3}
use Rattle.cut_model.specs.declared.plan.Leaf4.{Leaf4}
use Rattle.cut_model.specs.declared.plan.Body1.{Body1}
use Rattle.cut_model.specs.declared.plan.Body2.{Body2}
use Rattle.cut_model.specs.declared.plan.Body3.{Body3}
use Rattle.cut_model.specs.declared.plan.Body4.{Body4}
use Rattle.cut_model.specs.declared.plan.Body1.TheVariants as b1
use Rattle.cut_model.specs.declared.plan.Body2.TheVariants as b2
use Rattle.cut_model.specs.declared.plan.Body3.TheVariants as b3
use Rattle.cut_model.specs.declared.plan.Body4.TheVariants as b4
use Rattle.cut_model.specs.declared.family.Sort.{Sort}
use Rattle.cut_model.specs.Shape.{IsCutUp, IsOfLevel, IsPlanShaped, IsShaped}
use Rattle.cut_model.specs.Tree.{Forest, nothing, sort1, sort2, sort3, sort4, inner1, inner2, inner3, leaves, cells, bands, strips, plates_of, tree}

-- only plates have no size of their own
sized_above : (level size : ℕ) → 1 ≤ level → level ≡ 0 → size ≡ 0
sized_above level size below e = absurd (omega arith)

-- a leaf
leaf_level : (body : Body4) → IsOfLevel 4 (sort4 body) nothing
leaf_level b4.Waste = record { below = omega arith; shallow = omega arith; empty = refl }
leaf_level (b4.Item number) = record { below = omega arith; shallow = omega arith; empty = refl }

-- the leaves of a cell
leaves_shaped : (pieces : List Leaf4) → IsShaped 4 (leaves pieces)
leaves_shaped [] = tt
leaves_shaped (p ∷ later) = (sized_above 4 p.height (omega arith), leaf_level p.body, tt, leaves_shaped later)

-- a cell
cell_level : (body : Body3) → IsOfLevel 3 (sort3 body) (inner3 body)
cell_level b3.Waste = record { below = omega arith; shallow = omega arith; empty = refl }
cell_level (b3.Item number) = record { below = omega arith; shallow = omega arith; empty = refl }
cell_level (b3.Two low high) = record { shallow = omega arith; two = λ _. refl }

-- what is inside a cell
in_cell : (body : Body3) → IsShaped 4 (inner3 body)
in_cell b3.Waste = tt
in_cell (b3.Item number) = tt
in_cell (b3.Two low high) = leaves_shaped (low ∷ high ∷ [])

-- the cells of a band
cells_shaped : (pieces : List Piece3) → IsShaped 3 (cells pieces)
cells_shaped [] = tt
cells_shaped (p ∷ later) = (sized_above 3 p.width (omega arith), cell_level p.body, in_cell p.body, cells_shaped later)

-- a piece that is cut by a cut above the last
cut_up : (level : ℕ) (inner : Forest) → level ≤ 2 → IsCutUp level inner
cut_up level inner le = record { shallow = omega arith; two = λ e. absurd (omega (arith, le, e)) }

-- a band
band_level : (body : Body2) → IsOfLevel 2 (sort2 body) (inner2 body)
band_level b2.Waste = record { below = omega arith; shallow = omega arith; empty = refl }
band_level (b2.Item number) = record { below = omega arith; shallow = omega arith; empty = refl }
band_level (b2.Cut pieces) = cut_up 2 (cells pieces.items) (omega arith)

-- what is inside a band
in_band : (body : Body2) → IsShaped 3 (inner2 body)
in_band b2.Waste = tt
in_band (b2.Item number) = tt
in_band (b2.Cut pieces) = cells_shaped pieces.items

-- the bands of a strip
bands_shaped : (pieces : List Piece2) → IsShaped 2 (bands pieces)
bands_shaped [] = tt
bands_shaped (p ∷ later) = (sized_above 2 p.height (omega arith), band_level p.body, in_band p.body, bands_shaped later)

-- a strip
strip_level : (body : Body1) → IsOfLevel 1 (sort1 body) (inner1 body)
strip_level b1.Waste = record { below = omega arith; shallow = omega arith; empty = refl }
strip_level b1.Residual = record { strip = refl; empty = refl }
strip_level (b1.Item number) = record { below = omega arith; shallow = omega arith; empty = refl }
strip_level (b1.Cut pieces) = cut_up 1 (bands pieces.items) (omega arith)

-- what is inside a strip
in_strip : (body : Body1) → IsShaped 2 (inner1 body)
in_strip b1.Waste = tt
in_strip b1.Residual = tt
in_strip (b1.Item number) = tt
in_strip (b1.Cut pieces) = bands_shaped pieces.items

-- the strips of a plate
strips_shaped : (pieces : List Piece1) → IsShaped 1 (strips pieces)
strips_shaped [] = tt
strips_shaped (p ∷ later) = (sized_above 1 p.width (omega arith), strip_level p.body, in_strip p.body, strips_shaped later)

-- the plates of a plan
plates_shaped : (plates : List Plate) → IsShaped 0 (plates_of plates)
plates_shaped [] = tt
plates_shaped (p ∷ later) =
    ((λ _. refl), cut_up 0 (strips p.pieces.items) (omega arith), strips_shaped p.pieces.items, plates_shaped later)

-- the tree of a plan has this shape
pub tree_shaped : (plan : Plan) → IsPlanShaped (tree plan)
tree_shaped plan = plates_shaped plan.plates.items

-- what holds of no pieces, and of the pieces inside a piece that is cut, holds of the pieces inside each piece
pub by_sort : (P : Forest → Type 0) (level : ℕ) (sort : Sort) (inner : Forest) →
    IsOfLevel level sort inner → P nothing → (sort ≡ Sort.Branch → level ≤ 3 → P inner) → P inner
by_sort P level (Sort.Item number) inner h none more = subst P (sym h.empty) none
by_sort P level Sort.Waste inner h none more = subst P (sym h.empty) none
by_sort P level Sort.Branch inner h none more = more refl h.shallow
by_sort P level Sort.Residual inner h none more = subst P (sym h.empty) none
