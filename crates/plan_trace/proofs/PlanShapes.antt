-- The shape of a plan by its levels, and by what each piece is cut into.
use Rattle.std.proofs.Common.{◌≡◌, ℕ, ◌+◌, ◌≤◌, arith, refl}
use Rattle.glass_base.specs.Problem.{Problem}
use Rattle.cut_model.specs.declared.family.Sort.{Sort}
use Rattle.cut_model.specs.Shape.{IsCutUp, IsOfLevel, IsPlanShaped, IsShaped}
use Rattle.cut_model.specs.Sized.{sized}
use Rattle.cut_model.specs.Tree.{Forest, nothing, piece, neighbour_count}
use Rattle.plan_trace.specs.inner.Shape.{IsPart, IsLeaf, AreLeaves, AreCells, AreBands, IsStripLike, AreStrips, ArePlates}

-- a piece inside a strip
part_of : (Inside : Forest → Type 0) (level : ℕ) (sort : Sort) (inner : Forest) → 2 ≤ level → IsOfLevel level sort inner → (IsCutUp level inner → Inside inner) → IsPart Inside sort inner
part_of Inside level (Sort.Item number) inner deep h cut = h.empty
part_of Inside level Sort.Waste inner deep h cut = h.empty
part_of Inside level Sort.Branch inner deep h cut = cut h
part_of Inside level Sort.Residual inner deep h cut = absurd (omega (arith, h.strip, deep))

leaf_of : (sort : Sort) (inner : Forest) → IsOfLevel 4 sort inner → IsLeaf sort inner
leaf_of sort inner h = part_of (λ _. ⊥) 4 sort inner (omega arith) h (λ cut. omega (arith, cut.shallow))

leaves_of : (forest : Forest) → neighbour_count forest ≡ 2 → IsShaped 4 forest → AreLeaves forest
leaves_of nothing two h = absurd (omega (arith, two))
leaves_of (piece size sort inner nothing) two h = absurd (omega (arith, two))
leaves_of (piece size low below (piece size' high above nothing)) two h = (leaf_of low below h.1, leaf_of high above h.3.1)
leaves_of (piece size low below (piece size' high above (piece n sort inner later))) two h = absurd (omega (arith, two))

cells_of : (forest : Forest) → IsShaped 3 forest → AreCells forest
cells_of nothing h = tt
cells_of (piece size sort inner later) h = (part_of AreLeaves 3 sort inner (omega arith) h.1 (λ cut. leaves_of inner (cut.two refl) h.2), cells_of later h.3)

bands_of : (forest : Forest) → IsShaped 2 forest → AreBands forest
bands_of nothing h = tt
bands_of (piece size sort inner later) h = (part_of AreCells 2 sort inner (omega arith) h.1 (λ cut. cells_of inner h.2), bands_of later h.3)

strip_of : (sort : Sort) (inner : Forest) → IsOfLevel 1 sort inner → IsShaped 2 inner → IsStripLike sort inner
strip_of (Sort.Item number) inner h below = h.empty
strip_of Sort.Waste inner h below = h.empty
strip_of Sort.Branch inner h below = bands_of inner below
strip_of Sort.Residual inner h below = h.empty

pub strips_of : (forest : Forest) → IsShaped 1 forest → AreStrips forest
strips_of nothing h = tt
strips_of (piece size sort inner later) h = (strip_of sort inner h.1 h.2, strips_of later h.3)

-- of the plates from this number on
pub plates_of_shape : (b : Problem) (plate : ℕ) (plan : Forest) → IsPlanShaped plan → ArePlates (sized b plate plan)
plates_of_shape b plate nothing h = tt
plates_of_shape b plate (piece size (Sort.Item number) inner later) h = absurd (omega (arith, h.1.below))
plates_of_shape b plate (piece size Sort.Waste inner later) h = absurd (omega (arith, h.1.below))
plates_of_shape b plate (piece size Sort.Residual inner later) h = absurd (omega (arith, h.1.strip))
plates_of_shape b plate (piece size Sort.Branch inner later) h = (strips_of inner h.2, plates_of_shape b (plate + 1) later h.3)

-- back again, from the leaves on
whole : (level : ℕ) (inner : Forest) → 1 ≤ level → level ≤ 4 → inner ≡ nothing → IsOfLevel level Sort.Waste inner × IsShaped (level + 1) inner
whole level inner low high none = (record { below = low; shallow = high; empty = none }, rw none tt)

leaf_levels : (sort : Sort) (inner : Forest) → IsLeaf sort inner → IsOfLevel 4 sort inner × IsShaped 5 inner
leaf_levels (Sort.Item number) inner h = whole 4 inner (omega arith) (omega arith) h
leaf_levels Sort.Waste inner h = whole 4 inner (omega arith) (omega arith) h
leaf_levels Sort.Branch inner h = absurd h
leaf_levels Sort.Residual inner h = absurd h

leaves_levels : (forest : Forest) → AreLeaves forest → (neighbour_count forest ≡ 2) × IsShaped 4 forest
leaves_levels nothing h = absurd h
leaves_levels (piece size sort inner nothing) h = absurd h
leaves_levels (piece size low below (piece size' high above nothing)) h =
    let first = leaf_levels low below h.0 in
    let second = leaf_levels high above h.1 in
    (refl, ((λ e. absurd (omega (arith, e))), first.0, first.1, ((λ e. absurd (omega (arith, e))), second.0, second.1, tt)))
leaves_levels (piece size low below (piece size' high above (piece n sort inner later))) h = absurd h

cell_levels : (sort : Sort) (inner : Forest) → IsPart AreLeaves sort inner → IsOfLevel 3 sort inner × IsShaped 4 inner
cell_levels (Sort.Item number) inner h = whole 3 inner (omega arith) (omega arith) h
cell_levels Sort.Waste inner h = whole 3 inner (omega arith) (omega arith) h
cell_levels Sort.Branch inner h = let two = leaves_levels inner h in (record { shallow = omega arith; two = λ _. two.0 }, two.1)
cell_levels Sort.Residual inner h = absurd h

cells_levels : (forest : Forest) → AreCells forest → IsShaped 3 forest
cells_levels nothing h = tt
cells_levels (piece size sort inner later) h = let here = cell_levels sort inner h.0 in ((λ e. absurd (omega (arith, e))), here.0, here.1, cells_levels later h.1)

band_levels : (sort : Sort) (inner : Forest) → IsPart AreCells sort inner → IsOfLevel 2 sort inner × IsShaped 3 inner
band_levels (Sort.Item number) inner h = whole 2 inner (omega arith) (omega arith) h
band_levels Sort.Waste inner h = whole 2 inner (omega arith) (omega arith) h
band_levels Sort.Branch inner h = (record { shallow = omega arith; two = λ e. absurd (omega (arith, e)) }, cells_levels inner h)
band_levels Sort.Residual inner h = absurd h

bands_levels : (forest : Forest) → AreBands forest → IsShaped 2 forest
bands_levels nothing h = tt
bands_levels (piece size sort inner later) h = let here = band_levels sort inner h.0 in ((λ e. absurd (omega (arith, e))), here.0, here.1, bands_levels later h.1)

strip_levels : (sort : Sort) (inner : Forest) → IsStripLike sort inner → IsOfLevel 1 sort inner × IsShaped 2 inner
strip_levels (Sort.Item number) inner h = whole 1 inner (omega arith) (omega arith) h
strip_levels Sort.Waste inner h = whole 1 inner (omega arith) (omega arith) h
strip_levels Sort.Branch inner h = (record { shallow = omega arith; two = λ e. absurd (omega (arith, e)) }, bands_levels inner h)
strip_levels Sort.Residual inner h = (record { strip = refl; empty = h }, rw h tt)

strips_levels : (forest : Forest) → AreStrips forest → IsShaped 1 forest
strips_levels nothing h = tt
strips_levels (piece size sort inner later) h = let here = strip_levels sort inner h.0 in ((λ e. absurd (omega (arith, e))), here.0, here.1, strips_levels later h.1)

-- plates have no size of their own
abbrev pub AreFlat : Forest → Type 0
AreFlat nothing = Unit {0}
AreFlat (piece size sort inner later) = (size ≡ 0) × AreFlat later

pub plates_levels : (plan : Forest) → ArePlates plan → AreFlat plan → IsPlanShaped plan
plates_levels nothing h flat = tt
plates_levels (piece size (Sort.Item number) inner later) h flat = absurd h.0
plates_levels (piece size Sort.Waste inner later) h flat = absurd h.0
plates_levels (piece size Sort.Residual inner later) h flat = absurd h.0
plates_levels (piece size Sort.Branch inner later) h flat =
    ((λ _. flat.0), record { shallow = omega arith; two = λ e. absurd (omega (arith, e)) }, strips_levels inner h.0, plates_levels later h.1 flat.1)
