-- Lists of pieces that grow in front: the piece that is pushed last stands first.
use Rattle.std.specs.Prelude.{ℕ, List, [], ◌∷◌, Option, Some, None}
use Rattle.cut_model.specs.declared.family.Sort.{Sort}
use Rattle.cut_model.specs.declared.plan.Plate.{Plate}
use Rattle.cut_model.specs.declared.plan.Piece1.{Piece1}
use Rattle.cut_model.specs.declared.plan.Piece2.{Piece2}
use Rattle.cut_model.specs.declared.plan.Piece3.{Piece3}
use Rattle.cut_model.specs.declared.plan.Body2.{Body2}
use Rattle.cut_model.specs.declared.plan.Body3.{Body3}
use Rattle.cut_model.specs.declared.plan.Body2.TheVariants as b2
use Rattle.cut_model.specs.declared.plan.Body3.TheVariants as b3
use Rattle.cut_model.specs.Tree.{Forest, nothing, piece, sort1, inner1, sort2, inner2, sort3, inner3, strips}
use Rattle.plan_trace.specs.declared.growing.Growth.{Growth}
use Rattle.plan_trace.specs.declared.laid.Laid.{Laid}
use Rattle.plan_trace.specs.Canonical.{Grown}
use Rattle.plan_trace.specs.Marks.{Spot, spot}
use Rattle.plan_trace.specs.inner.Laid.{cut_of}

-- the pieces in their order, before these
abbrev pub piled : {A : Type 0} → (A → ℕ) → (A → Sort) → (A → Forest) → List A → Forest → Forest
piled size sort inner [] later = later
piled size sort inner (p ∷ ps) later = piled size sort inner ps (piece (size p) (sort p) (inner p) later)

abbrev pub cells_pile : List Piece3 → Forest
cells_pile ps = piled (λ p. p.width) (λ p. sort3 p.body) (λ p. inner3 p.body) ps nothing

abbrev pub bands_pile : List Piece2 → Forest
bands_pile ps = piled (λ p. p.height) (λ p. sort2 p.body) (λ p. inner2 p.body) ps nothing

abbrev pub strips_pile : List Piece1 → Forest
strips_pile ps = piled (λ p. p.width) (λ p. sort1 p.body) (λ p. inner1 p.body) ps nothing

abbrev pub plates_pile : List Plate → Forest
plates_pile ps = piled (λ p. 0) (λ p. Sort.Branch) (λ p. strips p.pieces.items) ps nothing

-- where the first piece begins, or the end where there is none
abbrev pub start_in : {A : Type 0} → List A → ℕ → ℕ → ℕ
start_in [] start end = end
start_in (_ ∷ _) start end = start

-- what has grown
abbrev pub grown_of : Growth → Grown
grown_of g = record {
  plates = plates_pile g.plates.items;
  strips = strips_pile g.strips.items;
  left = g.left;
  bands = bands_pile g.bands.items;
  low = g.low;
  cells = cells_pile g.cells.items;
  from = g.from;
  above = g.above;
}

-- the steps that are laid, as placed steps
abbrev pub spots_of : List Laid → List Spot
spots_of [] = []
spots_of (s ∷ later) = spot s.level (cut_of s) ∷ spots_of later

-- the item of a piece that is one
abbrev pub item_in3 : Body3 → Option ℕ
item_in3 (b3.Item number) = Some number
item_in3 b3.Waste = None
item_in3 (b3.Two _ _) = None

abbrev pub item_in2 : Body2 → Option ℕ
item_in2 (b2.Item number) = Some number
item_in2 b2.Waste = None
item_in2 (b2.Cut _) = None

abbrev pub item_alone3 : List Piece3 → Option ℕ
item_alone3 [] = None
item_alone3 (p ∷ []) = item_in3 p.body
item_alone3 (p ∷ q ∷ ps) = None

abbrev pub item_alone2 : List Piece2 → Option ℕ
item_alone2 [] = None
item_alone2 (p ∷ []) = item_in2 p.body
item_alone2 (p ∷ q ∷ ps) = None

-- what has grown, with no cells or no bands
abbrev pub without_cells : Grown → Grown
without_cells g = record g { cells = nothing }

abbrev pub without_bands : Grown → Grown
without_bands g = record g { bands = nothing }
