-- The shape of a canonical plan: its plates, the pieces inside each, and how many there are.
use Rattle.std.proofs.Common.{◌≡◌, ℕ, zero, suc, ◌+◌, ◌-◌, ◌*◌, ◌==◌, ◌≤◌, List, [], ◌∷◌, length, map, refl, ap, arith, true, false, cond, Option, Some, None}
use Rattle.std.proofs.lemmas.List.{length-append}
use Rattle.glass_base.specs.declared.params.Params.{Params}
use Rattle.glass_base.specs.Plates.{Width}
use Rattle.glass_base.specs.Problem.{Problem}
use Rattle.cut_model.specs.declared.family.Sort.{Sort}
use Rattle.cut_model.specs.declared.steps.Step.{Step}
use Rattle.cut_model.specs.Shape.{IsPlanShaped}
use Rattle.cut_model.specs.Steps.{plates_begun, plates_after}
use Rattle.cut_model.specs.Tree.{Forest, nothing, piece, count, neighbour_count}
use Rattle.cut_model.proofs.Cutting.{items_in}
use Rattle.plan_trace.specs.Marks.{NewPlate, NewStrip, NewBand, NewCell, Over, level_of, Draw, draw_of, Place, place_of, no_place, marks, attach, Cut, cut, Spot, spot, spots}
use Rattle.plan_trace.specs.TraceRules.{Meets}
use Rattle.plan_trace.specs.Canonical.{Grown, grown, canonical, gap, hoisted, hoisted_sort, hoisted_inner, cell_pieces, item_id, add_cell, add_band, add_strip, add_plate, end_sort, start_of}
use Rattle.plan_trace.specs.inner.Shape.{Each, IsPart, AreLeaves, AreCells, AreBands, IsStripLike, AreStrips, ArePlates}
use Rattle.plan_trace.proofs.PlanShapes.{AreFlat, plates_levels}
use Rattle.plan_trace.proofs.CutOrder.{gap_cut, hoisted_cut, cell_cut}
use Rattle.plan_trace.proofs.UsedPlates.{EachHolds}

-- a piece beside those in a gap or behind it
by_gap : (P : Forest → Type 0) (from to : ℕ) (sort : Sort) (later : Forest) → P later → P (piece (to - from) sort nothing later) → P (gap from to sort later)
by_gap P from to sort later none there = elim (from == to) as (λ same. P (cond same later (piece (to - from) sort nothing later))) [ true ↦ none | false ↦ there ]

gap_parts : (Inside : Forest → Type 0) (from to : ℕ) (later : Forest) → Each (IsPart Inside) later → Each (IsPart Inside) (gap from to Sort.Waste later)
gap_parts Inside from to later h = by_gap (Each (IsPart Inside)) from to Sort.Waste later h (refl, h)

-- a piece that is cut into such pieces, or is the one item inside
hoisted_part : (Inside : Forest → Type 0) (inner : Forest) → Inside inner → IsPart Inside (hoisted_sort inner) (hoisted_inner inner)
hoisted_part Inside nothing h = h
hoisted_part Inside (piece n (Sort.Item number) nothing nothing) h = refl
hoisted_part Inside (piece n (Sort.Item number) nothing (piece m t i l)) h = h
hoisted_part Inside (piece n (Sort.Item number) (piece m t i l) next) h = h
hoisted_part Inside (piece n Sort.Waste inner next) h = h
hoisted_part Inside (piece n Sort.Branch inner next) h = h
hoisted_part Inside (piece n Sort.Residual inner next) h = h

hoisted_strip : (inner : Forest) → AreBands inner → IsStripLike (hoisted_sort inner) (hoisted_inner inner)
hoisted_strip nothing h = h
hoisted_strip (piece n (Sort.Item number) nothing nothing) h = refl
hoisted_strip (piece n (Sort.Item number) nothing (piece m t i l)) h = h
hoisted_strip (piece n (Sort.Item number) (piece m t i l) next) h = h
hoisted_strip (piece n Sort.Waste inner next) h = h
hoisted_strip (piece n Sort.Branch inner next) h = h
hoisted_strip (piece n Sort.Residual inner next) h = h

-- the cell of a step
abbrev IsCell : Forest → Type 0
IsCell inner = IsPart AreLeaves (hoisted_sort inner) (hoisted_inner inner)

cell_shaped : (above : Option (ℕ × ℕ)) (lift height h number : ℕ) → IsCell (cell_pieces above lift height h number)
cell_shaped (Some above) lift height h number = (refl, refl)
cell_shaped None zero height h number =
    elim (h == height) as (λ same. IsCell (piece h (Sort.Item number) nothing (cond same nothing (piece (height - h) Sort.Waste nothing nothing)))) [ true ↦ refl | false ↦ (refl, refl) ]
cell_shaped None (suc n) height h number =
    elim (h == height) as (λ same. IsCell (cond same (piece h (Sort.Item number) nothing nothing) (piece (height - h) Sort.Waste nothing (piece h (Sort.Item number) nothing nothing)))) [ true ↦ refl | false ↦ (refl, refl) ]

end_like : (plates strips : Forest) → IsStripLike (end_sort plates strips) nothing
end_like nothing nothing = refl
end_like nothing (piece n t i l) = refl
end_like (piece n t i l) strips = refl

-- what is grown has the shape of a plan's parts
pub record Shaped (g : Grown) : Type 0 where
  pub cells : AreCells g.cells
  pub bands : AreBands g.bands
  pub strips : AreStrips g.strips
  pub plates : ArePlates g.plates
  pub flat : AreFlat g.plates

shaped_cell : (s : Cut) (g : Grown) → Shaped g → Shaped (add_cell s g)
shaped_cell s g h = record {
  cells = (cell_shaped g.above s.draw.lift (s.d - s.c) s.h (item_id s.item), gap_parts AreLeaves (s.e + s.w) (start_of g.cells g.from s.b) g.cells h.cells);
  bands = h.bands;
  strips = h.strips;
  plates = h.plates;
  flat = h.flat;
}

shaped_band : (p : Params) (s : Cut) (g : Grown) → Shaped g → Shaped (add_band p s g)
shaped_band p s g h = record {
  cells = tt;
  bands = (hoisted_part AreCells (gap s.a g.from Sort.Waste g.cells) (gap_parts AreLeaves s.a g.from g.cells h.cells), gap_parts AreCells s.d (start_of g.bands g.low p.height) g.bands h.bands);
  strips = h.strips;
  plates = h.plates;
  flat = h.flat;
}

shaped_strip : (b : Problem) (s : Cut) (g : Grown) → Shaped g → Shaped (add_strip b s g)
shaped_strip b s g h = record {
  cells = h.cells;
  bands = tt;
  strips = (
    hoisted_strip (gap 0 g.low Sort.Waste g.bands) (gap_parts AreCells 0 g.low g.bands h.bands),
    by_gap AreStrips s.b (start_of g.strips g.left (Width b s.plate)) (end_sort g.plates g.strips) g.strips h.strips (end_like g.plates g.strips, h.strips),
  );
  plates = h.plates;
  flat = h.flat;
}

shaped_plate : (g : Grown) → Shaped g → Shaped (add_plate g)
shaped_plate g h = record { cells = h.cells; bands = h.bands; strips = tt; plates = (by_gap AreStrips 0 g.left Sort.Waste g.strips h.strips (refl, h.strips), h.plates); flat = (refl, h.flat) }

pub shaped : (b : Problem) (later : List Spot) → Shaped (grown b later)
shaped b [] = record { cells = tt; bands = tt; strips = tt; plates = tt; flat = tt }
shaped b (spot NewPlate s ∷ later) = shaped_plate _ (shaped_strip b s _ (shaped_band b.params s _ (shaped_cell s _ (shaped b later))))
shaped b (spot NewStrip s ∷ later) = shaped_strip b s _ (shaped_band b.params s _ (shaped_cell s _ (shaped b later)))
shaped b (spot NewBand s ∷ later) = shaped_band b.params s _ (shaped_cell s _ (shaped b later))
shaped b (spot NewCell s ∷ later) = shaped_cell s _ (shaped b later)
shaped b (spot Over s ∷ later) = let h = shaped b later in record { cells = h.cells; bands = h.bands; strips = h.strips; plates = h.plates; flat = h.flat }

-- the canonical plan has the shape of a plan
pub canonical_shaped : (b : Problem) (ss : List Step) → IsPlanShaped (canonical b ss)
canonical_shaped b ss = let h = shaped b (spots b ss) in plates_levels (canonical b ss) h.plates h.flat

-- how many pieces there are
gap_count : (from to : ℕ) (sort : Sort) (later : Forest) → count (gap from to sort later) ≤ 1 + count later
gap_count from to sort later = by_gap (λ f. count f ≤ 1 + count later) from to sort later (omega arith) (omega arith)

hoisted_count : (size : ℕ) (inner later : Forest) → count (hoisted size inner later) ≤ 1 + count inner + count later
hoisted_count size nothing later = omega arith
hoisted_count size (piece n (Sort.Item number) nothing nothing) later = omega arith
hoisted_count size (piece n (Sort.Item number) nothing (piece m t i l)) later = omega arith
hoisted_count size (piece n (Sort.Item number) (piece m t i l) next) later = omega arith
hoisted_count size (piece n Sort.Waste inner next) later = omega arith
hoisted_count size (piece n Sort.Branch inner next) later = omega arith
hoisted_count size (piece n Sort.Residual inner next) later = omega arith

cell_count : (above : Option (ℕ × ℕ)) (lift height h number : ℕ) → count (cell_pieces above lift height h number) ≤ 2
cell_count (Some above) lift height h number = omega arith
cell_count None zero height h number = omega (arith, gap_count h height Sort.Waste nothing)
cell_count None (suc n) height h number = gap_count h height Sort.Waste (piece h (Sort.Item number) nothing nothing)

-- the pieces of all that is grown
abbrev size_of : Grown → ℕ
size_of g = count g.cells + count g.bands + count g.strips + count g.plates

cell_more : (s : Cut) (g : Grown) → size_of (add_cell s g) ≤ size_of g + 4
cell_more s g =
    let inner : Forest = cell_pieces g.above s.draw.lift (s.d - s.c) s.h (item_id s.item) in
    let beside : Forest = gap (s.e + s.w) (start_of g.cells g.from s.b) Sort.Waste g.cells in
    omega (arith, hoisted_count s.w inner beside, cell_count g.above s.draw.lift (s.d - s.c) s.h (item_id s.item), gap_count (s.e + s.w) (start_of g.cells g.from s.b) Sort.Waste g.cells)

band_more : (p : Params) (s : Cut) (g : Grown) → size_of (add_band p s g) ≤ size_of g + 3
band_more p s g =
    let inner : Forest = gap s.a g.from Sort.Waste g.cells in
    let over : Forest = gap s.d (start_of g.bands g.low p.height) Sort.Waste g.bands in
    omega (arith, hoisted_count (s.d - s.c) inner over, gap_count s.a g.from Sort.Waste g.cells, gap_count s.d (start_of g.bands g.low p.height) Sort.Waste g.bands)

strip_more : (b : Problem) (s : Cut) (g : Grown) → size_of (add_strip b s g) ≤ size_of g + 3
strip_more b s g =
    let inner : Forest = gap 0 g.low Sort.Waste g.bands in
    let right : Forest = gap s.b (start_of g.strips g.left (Width b s.plate)) (end_sort g.plates g.strips) g.strips in
    omega (arith, hoisted_count (s.b - s.a) inner right, gap_count 0 g.low Sort.Waste g.bands, gap_count s.b (start_of g.strips g.left (Width b s.plate)) (end_sort g.plates g.strips) g.strips)

plate_more : (g : Grown) → size_of (add_plate g) ≤ size_of g + 2
plate_more g = omega (arith, gap_count 0 g.left Sort.Waste g.strips)

few_grown : (b : Problem) (later : List Spot) → size_of (grown b later) ≤ 12 * length later
few_grown b [] = omega arith
few_grown b (spot NewPlate s ∷ later) =
    let g : Grown = grown b later in
    omega (arith, plate_more (add_strip b s (add_band b.params s (add_cell s g))), strip_more b s (add_band b.params s (add_cell s g)), band_more b.params s (add_cell s g), cell_more s g, few_grown b later)
few_grown b (spot NewStrip s ∷ later) =
    let g : Grown = grown b later in omega (arith, strip_more b s (add_band b.params s (add_cell s g)), band_more b.params s (add_cell s g), cell_more s g, few_grown b later)
few_grown b (spot NewBand s ∷ later) = let g : Grown = grown b later in omega (arith, band_more b.params s (add_cell s g), cell_more s g, few_grown b later)
few_grown b (spot NewCell s ∷ later) = omega (arith, cell_more s (grown b later), few_grown b later)
few_grown b (spot Over s ∷ later) = omega (arith, few_grown b later)

pub canonical_count : (b : Problem) (ss : List Step) → count (canonical b ss) ≤ 12 * length (spots b ss)
canonical_count b ss = omega (arith, few_grown b (spots b ss))

-- each plate holds an item
cell_some : (s : Cut) (g : Grown) → 1 ≤ length (items_in (add_cell s g).cells)
cell_some s g =
    let inner : Forest = cell_pieces g.above s.draw.lift (s.d - s.c) s.h (item_id s.item) in
    let beside : Forest = gap (s.e + s.w) (start_of g.cells g.from s.b) Sort.Waste g.cells in
    omega (arith, ap length (hoisted_cut s.w inner beside), length-append (items_in inner) (items_in beside), ap length (cell_cut g.above s.draw.lift (s.d - s.c) s.h (item_id s.item)))

band_some : (p : Params) (s : Cut) (g : Grown) → 1 ≤ length (items_in g.cells) → 1 ≤ length (items_in (add_band p s g).bands)
band_some p s g h =
    let inner : Forest = gap s.a g.from Sort.Waste g.cells in
    let over : Forest = gap s.d (start_of g.bands g.low p.height) Sort.Waste g.bands in
    omega (arith, h, ap length (hoisted_cut (s.d - s.c) inner over), length-append (items_in inner) (items_in over), ap length (gap_cut s.a g.from Sort.Waste g.cells refl))

strip_some : (b : Problem) (s : Cut) (g : Grown) → 1 ≤ length (items_in g.bands) → 1 ≤ length (items_in (add_strip b s g).strips)
strip_some b s g h =
    let inner : Forest = gap 0 g.low Sort.Waste g.bands in
    let right : Forest = gap s.b (start_of g.strips g.left (Width b s.plate)) (end_sort g.plates g.strips) g.strips in
    omega (arith, h, ap length (hoisted_cut (s.b - s.a) inner right), length-append (items_in inner) (items_in right), ap length (gap_cut 0 g.low Sort.Waste g.bands refl))

grown_holds : (b : Problem) (later : List Spot) → EachHolds (grown b later).plates
grown_holds b [] = tt
grown_holds b (spot NewPlate s ∷ later) =
    let g : Grown = add_strip b s (add_band b.params s (add_cell s (grown b later))) in
    (omega (arith, strip_some b s (add_band b.params s (add_cell s (grown b later))) (band_some b.params s (add_cell s (grown b later)) (cell_some s (grown b later))), ap length (gap_cut 0 g.left Sort.Waste g.strips refl)), grown_holds b later)
grown_holds b (spot NewStrip s ∷ later) = grown_holds b later
grown_holds b (spot NewBand s ∷ later) = grown_holds b later
grown_holds b (spot NewCell s ∷ later) = grown_holds b later
grown_holds b (spot Over s ∷ later) = grown_holds b later

pub canonical_holds : (b : Problem) (ss : List Step) → EachHolds (canonical b ss)
canonical_holds b ss = grown_holds b (spots b ss)

-- there are as many plates as steps that begin one
plates_later : (b : Problem) (x : Draw) (before : List Draw) (t : Place) (ss : List Step) →
    neighbour_count (grown b (attach (marks b (x ∷ before) t (map draw_of ss)) ss)).plates ≡ plates_begun ss
plates_later b x before t [] = refl
plates_later b x before t (s ∷ ss) = by s.kind (plates_later b (draw_of s) (x ∷ before) (place_of b (x ∷ before) t (draw_of s)) ss)
  where
    rest : List Spot
    rest = attach (marks b (draw_of s ∷ x ∷ before) (place_of b (x ∷ before) t (draw_of s)) (map draw_of ss)) ss

    n : Cut
    n = cut (place_of b (x ∷ before) t (draw_of s)) s

    by : (kind : ℕ) → neighbour_count (grown b rest).plates ≡ plates_begun ss → neighbour_count (grown b (spot (level_of kind) n ∷ rest)).plates ≡ plates_after kind (plates_begun ss)
    by zero e = omega (arith, e)
    by (suc zero) e = e
    by (suc (suc zero)) e = e
    by (suc (suc (suc zero))) e = e
    by (suc (suc (suc (suc k)))) e = e

first_plate_begun : (kind n : ℕ) → 1 ≤ plates_after kind 0 → plates_after kind n ≡ n + 1
first_plate_begun zero n h = refl
first_plate_begun (suc k) n h = absurd (omega (arith, h))

pub canonical_plates : (b : Problem) (ss : List Step) → Meets b ss → neighbour_count (canonical b ss) ≡ plates_begun ss
canonical_plates b [] m = refl
canonical_plates b (s ∷ ss) m = omega (arith, first_plate_begun s.kind (plates_begun ss) m.0.tr1.0, plates_later b (draw_of s) [] (place_of b [] no_place (draw_of s)) ss)
