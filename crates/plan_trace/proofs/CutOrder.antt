-- The canonical plan of a trace cuts the items of its steps, in their order.
use Rattle.std.proofs.Common.{◌≡◌, ℕ, zero, suc, ◌+◌, ◌-◌, ◌==◌, List, [], ◌∷◌, ◌++◌, refl, sym, ap, ◌∙◌, true, false, cond, Option, Some, None, append_assoc}
use Rattle.glass_base.specs.declared.params.Params.{Params}
use Rattle.glass_base.specs.Plates.{Width}
use Rattle.glass_base.specs.Problem.{Problem}
use Rattle.cut_model.specs.declared.family.Sort.{Sort}
use Rattle.cut_model.specs.declared.steps.Step.{Step}
use Rattle.cut_model.specs.Families.{rows_of}
use Rattle.cut_model.specs.Order.{cut_order, item_named}
use Rattle.cut_model.specs.Tree.{Forest, nothing, piece, type_number}
use Rattle.cut_model.proofs.Cutting.{items_in, rows_cut}
use Rattle.plan_trace.specs.Marks.{Level, NewPlate, NewStrip, NewBand, NewCell, Over, Spot, spot, spots, Cut, no_cut}
use Rattle.plan_trace.specs.TraceRules.{Rules, EachStep, Meets}
use Rattle.plan_trace.specs.Canonical.{Grown, grown, canonical, gap, hoisted, cell_pieces, item_id, add_cell, add_band, add_strip, add_plate, end_sort, start_of}

-- a gap holds no item
pub gap_cut : (from to : ℕ) (sort : Sort) (later : Forest) → item_named (type_number sort) ≡ None → items_in (gap from to sort later) ≡ items_in later
gap_cut from to sort later none =
    elim (from == to) as (λ same. items_in (cond same later (piece (to - from) sort nothing later)) ≡ items_in later) [ true ↦ refl | false ↦ rw none refl ]

-- a piece that is cut, or that is the one item that it would be cut into, holds the items that it is cut into
pub hoisted_cut : (size : ℕ) (inner later : Forest) → items_in (hoisted size inner later) ≡ items_in inner ++ items_in later
hoisted_cut size nothing later = refl
hoisted_cut size (piece n (Sort.Item number) nothing nothing) later = refl
hoisted_cut size (piece n (Sort.Item number) nothing (piece m t i l)) later = refl
hoisted_cut size (piece n (Sort.Item number) (piece m t i l) next) later = refl
hoisted_cut size (piece n Sort.Waste inner next) later = refl
hoisted_cut size (piece n Sort.Branch inner next) later = refl
hoisted_cut size (piece n Sort.Residual inner next) later = refl

-- the item that stands over the one before
abbrev pub above_cut : Option (ℕ × ℕ) → List ℕ
above_cut None = []
above_cut (Some above) = above.1 ∷ []

pub cell_cut : (above : Option (ℕ × ℕ)) (lift height h number : ℕ) → items_in (cell_pieces above lift height h number) ≡ number ∷ above_cut above
cell_cut (Some above) lift height h number = refl
cell_cut None zero height h number = ap (λ (l : List ℕ). number ∷ l) (gap_cut h height Sort.Waste nothing refl)
cell_cut None (suc lift) height h number = gap_cut h height Sort.Waste (piece h (Sort.Item number) nothing nothing) refl

-- the items of all that is grown, in cutting order
abbrev held : Grown → List ℕ
held g = above_cut g.above ++ (items_in g.cells ++ (items_in g.bands ++ (items_in g.strips ++ items_in g.plates)))

pub end_cut : (plates strips : Forest) → item_named (type_number (end_sort plates strips)) ≡ None
end_cut nothing nothing = refl
end_cut nothing (piece n t i l) = refl
end_cut (piece n t i l) strips = refl

held_cell : (s : Cut) (g : Grown) → held (add_cell s g) ≡ item_id s.item ∷ held g
held_cell s g =
    let inner : Forest = cell_pieces g.above s.draw.lift (s.d - s.c) s.h (item_id s.item) in
    let beside : Forest = gap (s.e + s.w) (start_of g.cells g.from s.b) Sort.Waste g.cells in
    let rest : List ℕ = items_in g.bands ++ (items_in g.strips ++ items_in g.plates) in
    ap (λ (l : List ℕ). l ++ rest)
    (hoisted_cut s.w inner beside
    ∙ ap (λ (l : List ℕ). l ++ items_in beside) (cell_cut g.above s.draw.lift (s.d - s.c) s.h (item_id s.item))
    ∙ ap (λ (l : List ℕ). item_id s.item ∷ (above_cut g.above ++ l)) (gap_cut (s.e + s.w) (start_of g.cells g.from s.b) Sort.Waste g.cells refl))
    ∙ ap (λ (l : List ℕ). item_id s.item ∷ l) (append_assoc (above_cut g.above) (items_in g.cells) rest)

held_band : (p : Params) (s : Cut) (g : Grown) → held (add_band p s g) ≡ held g
held_band p s g =
    let inner : Forest = gap s.a g.from Sort.Waste g.cells in
    let over : Forest = gap s.d (start_of g.bands g.low p.height) Sort.Waste g.bands in
    let rest : List ℕ = items_in g.strips ++ items_in g.plates in
    ap (λ (l : List ℕ). above_cut g.above ++ l)
    (ap (λ (l : List ℕ). l ++ rest)
    (hoisted_cut (s.d - s.c) inner over
    ∙ ap (λ (l : List ℕ). l ++ items_in over) (gap_cut s.a g.from Sort.Waste g.cells refl)
    ∙ ap (λ (l : List ℕ). items_in g.cells ++ l) (gap_cut s.d (start_of g.bands g.low p.height) Sort.Waste g.bands refl))
    ∙ append_assoc (items_in g.cells) (items_in g.bands) rest)

held_strip : (b : Problem) (s : Cut) (g : Grown) → held (add_strip b s g) ≡ held g
held_strip b s g =
    let inner : Forest = gap 0 g.low Sort.Waste g.bands in
    let right : Forest = gap s.b (start_of g.strips g.left (Width b s.plate)) (end_sort g.plates g.strips) g.strips in
    ap (λ (l : List ℕ). above_cut g.above ++ (items_in g.cells ++ l))
    (ap (λ (l : List ℕ). l ++ items_in g.plates)
    (hoisted_cut (s.b - s.a) inner right
    ∙ ap (λ (l : List ℕ). l ++ items_in right) (gap_cut 0 g.low Sort.Waste g.bands refl)
    ∙ ap (λ (l : List ℕ). items_in g.bands ++ l) (gap_cut s.b (start_of g.strips g.left (Width b s.plate)) (end_sort g.plates g.strips) g.strips (end_cut g.plates g.strips)))
    ∙ append_assoc (items_in g.bands) (items_in g.strips) (items_in g.plates))

held_plate : (g : Grown) → held (add_plate g) ≡ held g
held_plate g =
    ap (λ (l : List ℕ). above_cut g.above ++ (items_in g.cells ++ (items_in g.bands ++ (l ++ items_in g.plates)))) (gap_cut 0 g.left Sort.Waste g.strips refl)

-- the numbers of the steps' items
abbrev pub numbers_of : List Spot → List ℕ
numbers_of [] = []
numbers_of (spot _ s ∷ later) = item_id s.item ∷ numbers_of later

none_above : (b : Problem) (s : Cut) (later : List Spot) → EachStep (Rules b) Over s later → (grown b later).above ≡ None
none_above b s [] r = refl
none_above b s (spot NewPlate n ∷ later) r = refl
none_above b s (spot NewStrip n ∷ later) r = refl
none_above b s (spot NewBand n ∷ later) r = refl
none_above b s (spot NewCell n ∷ later) r = refl
none_above b s (spot Over n ∷ later) r = absurd (r.0.tr7.3 refl)

grown_cut : (b : Problem) (m : Level) (t : Cut) (later : List Spot) → EachStep (Rules b) m t later → held (grown b later) ≡ numbers_of later
grown_cut b m t [] r = refl
grown_cut b m t (spot NewPlate s ∷ later) r =
    let g : Grown = grown b later in
    held_plate (add_strip b s (add_band b.params s (add_cell s g)))
    ∙ held_strip b s (add_band b.params s (add_cell s g))
    ∙ held_band b.params s (add_cell s g)
    ∙ held_cell s g
    ∙ ap (λ (l : List ℕ). item_id s.item ∷ l) (grown_cut b NewPlate s later r.1)
grown_cut b m t (spot NewStrip s ∷ later) r =
    let g : Grown = grown b later in
    held_strip b s (add_band b.params s (add_cell s g))
    ∙ held_band b.params s (add_cell s g)
    ∙ held_cell s g
    ∙ ap (λ (l : List ℕ). item_id s.item ∷ l) (grown_cut b NewStrip s later r.1)
grown_cut b m t (spot NewBand s ∷ later) r =
    let g : Grown = grown b later in
    held_band b.params s (add_cell s g) ∙ held_cell s g ∙ ap (λ (l : List ℕ). item_id s.item ∷ l) (grown_cut b NewBand s later r.1)
grown_cut b m t (spot NewCell s ∷ later) r = held_cell s (grown b later) ∙ ap (λ (l : List ℕ). item_id s.item ∷ l) (grown_cut b NewCell s later r.1)
grown_cut b m t (spot Over s ∷ later) r =
    let g : Grown = grown b later in
    ap (λ (l : List ℕ). item_id s.item ∷ l) (ap (λ (o : Option (ℕ × ℕ)). above_cut o ++ (items_in g.cells ++ (items_in g.bands ++ (items_in g.strips ++ items_in g.plates)))) (sym (none_above b s later r.1)) ∙ grown_cut b Over s later r.1)

-- the canonical plan holds the items of the steps
pub canonical_items : (b : Problem) (ss : List Step) → Meets b ss → items_in (canonical b ss) ≡ numbers_of (spots b ss)
canonical_items b [] m = refl
canonical_items b (s ∷ ss) m = grown_cut b NewPlate no_cut (spots b (s ∷ ss)) m

-- and cuts them in their order
pub canonical_order : (b : Problem) (ss : List Step) → Meets b ss → cut_order (rows_of b (canonical b ss)) ≡ numbers_of (spots b ss)
canonical_order b ss m = rows_cut b (canonical b ss) ∙ canonical_items b ss m
