-- A plan as one tree: neighbouring pieces, each with its size, its sort, and the pieces that it is cut into.
use Rattle.std.specs.Prelude.{ℕ, zero, suc, ℤ, pos, negsuc, ◌+◌, ◌^◌, ◌<◌, ◌≤◌, List, [], ◌∷◌, Bool, true, false, ◌||◌}
use Rattle.cut_model.specs.declared.plan.Plan.{Plan}
use Rattle.cut_model.specs.declared.plan.Plate.{Plate}
use Rattle.cut_model.specs.declared.plan.Piece1.{Piece1}
use Rattle.cut_model.specs.declared.plan.Piece2.{Piece2}
use Rattle.cut_model.specs.declared.plan.Piece3.{Piece3}
use Rattle.cut_model.specs.declared.plan.Leaf4.{Leaf4}
use Rattle.cut_model.specs.declared.plan.Body1.{Body1}
use Rattle.cut_model.specs.declared.plan.Body2.{Body2}
use Rattle.cut_model.specs.declared.plan.Body3.{Body3}
use Rattle.cut_model.specs.declared.plan.Body4.{Body4}
use Rattle.cut_model.specs.declared.plan.Body1.TheVariants as b1
use Rattle.cut_model.specs.declared.plan.Body2.TheVariants as b2
use Rattle.cut_model.specs.declared.plan.Body3.TheVariants as b3
use Rattle.cut_model.specs.declared.plan.Body4.TheVariants as b4
use Rattle.cut_model.specs.declared.family.Sort.{Sort}
use Rattle.cut_model.specs.declared.family.Children.{Children}

-- neighbours, in cutting order
pub data Forest : Type 0 where
  nothing : Forest
  piece : (size : ℕ) (sort : Sort) (inner later : Forest) → Forest

-- a list of pieces as neighbours, by what size and sort each has and what it is cut into
abbrev pub neighbours : {A : Type 0} → (A → ℕ) → (A → Sort) → (A → Forest) → List A → Forest
neighbours size sort inner [] = nothing
neighbours size sort inner (p ∷ later) = piece (size p) (sort p) (inner p) (neighbours size sort inner later)

-- the leaves that a 4-cut makes of a cell
abbrev pub sort4 : Body4 → Sort
sort4 b4.Waste = Sort.Waste
sort4 (b4.Item number) = Sort.Item number

abbrev pub leaves : List Leaf4 → Forest
leaves = neighbours (λ p. p.height) (λ p. sort4 p.body) (λ p. nothing)

-- the cells that 3-cuts make of a band
abbrev pub sort3 : Body3 → Sort
sort3 b3.Waste = Sort.Waste
sort3 (b3.Item number) = Sort.Item number
sort3 (b3.Two _ _) = Sort.Branch

abbrev pub inner3 : Body3 → Forest
inner3 b3.Waste = nothing
inner3 (b3.Item _) = nothing
inner3 (b3.Two low high) = leaves (low ∷ high ∷ [])

abbrev pub cells : List Piece3 → Forest
cells = neighbours (λ p. p.width) (λ p. sort3 p.body) (λ p. inner3 p.body)

-- the bands that 2-cuts make of a strip
abbrev pub sort2 : Body2 → Sort
sort2 b2.Waste = Sort.Waste
sort2 (b2.Item number) = Sort.Item number
sort2 (b2.Cut _) = Sort.Branch

abbrev pub inner2 : Body2 → Forest
inner2 b2.Waste = nothing
inner2 (b2.Item _) = nothing
inner2 (b2.Cut pieces) = cells pieces.items

abbrev pub bands : List Piece2 → Forest
bands = neighbours (λ p. p.height) (λ p. sort2 p.body) (λ p. inner2 p.body)

-- the strips that 1-cuts make of a plate
abbrev pub sort1 : Body1 → Sort
sort1 b1.Waste = Sort.Waste
sort1 b1.Residual = Sort.Residual
sort1 (b1.Item number) = Sort.Item number
sort1 (b1.Cut _) = Sort.Branch

abbrev pub inner1 : Body1 → Forest
inner1 b1.Waste = nothing
inner1 b1.Residual = nothing
inner1 (b1.Item _) = nothing
inner1 (b1.Cut pieces) = bands pieces.items

abbrev pub strips : List Piece1 → Forest
strips = neighbours (λ p. p.width) (λ p. sort1 p.body) (λ p. inner1 p.body)

-- the plates, which have no size of their own
abbrev pub plates_of : List Plate → Forest
plates_of = neighbours (λ p. 0) (λ p. Sort.Branch) (λ p. strips p.pieces.items)

-- the meaning of a plan; two plans with one tree are the same plan
abbrev pub tree : Plan → Forest
tree plan = plates_of plan.plates.items

-- the sum of the neighbours' sizes
abbrev pub total_size : Forest → ℕ
total_size nothing = 0
total_size (piece size _ _ later) = size + total_size later

-- whether a piece is an item
abbrev pub is_item : Sort → Bool
is_item (Sort.Item _) = true
is_item _ = false

-- whether it is a plate, or a piece that is cut
abbrev pub is_branch : Sort → Bool
is_branch Sort.Branch = true
is_branch _ = false

-- whether it is the residual
abbrev pub is_residual : Sort → Bool
is_residual Sort.Residual = true
is_residual _ = false

-- whether one of the neighbours is an item
abbrev pub holds_item : Forest → Bool
holds_item nothing = false
holds_item (piece _ sort _ later) = is_item sort || holds_item later

-- whether there is no piece
abbrev pub is_nothing : Forest → Bool
is_nothing nothing = true
is_nothing (piece _ _ _ _) = false

-- what the rules need of the pieces that a piece is cut into
abbrev pub children_in : Forest → Children
children_in forest = record { empty = is_nothing forest; total = total_size forest; has_item = holds_item forest }

-- how many pieces there are, those inside them too
abbrev pub count : Forest → ℕ
count nothing = 0
count (piece _ _ inner later) = 1 + count inner + count later

-- the type by which a row names a sort: the number of an item, -1 a waste, -2 a plate or piece that is cut, -3 the residual
abbrev pub type_number : Sort → ℤ
type_number (Sort.Item number) = pos number
type_number Sort.Waste = negsuc 0
type_number Sort.Branch = negsuc 1
type_number Sort.Residual = negsuc 2

-- a type that a row can have: the number of an item, which is below 2^32, or -1, -2 or -3
abbrev pub IsRowType : ℤ → Type 0
IsRowType (pos number) = number < 2 ^ 32
IsRowType (negsuc below) = below ≤ 2

-- the sort that a type names; no row has a type below -3
abbrev pub sort_named : ℤ → Sort
sort_named (pos number) = Sort.Item number
sort_named (negsuc zero) = Sort.Waste
sort_named (negsuc (suc zero)) = Sort.Branch
sort_named (negsuc (suc (suc zero))) = Sort.Residual
sort_named (negsuc (suc (suc (suc _)))) = Sort.Waste

-- how many neighbours there are; of a plan, how many plates it uses
abbrev pub neighbour_count : Forest → ℕ
neighbour_count nothing = 0
neighbour_count (piece _ _ _ later) = 1 + neighbour_count later
