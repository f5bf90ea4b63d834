-- The pieces that the later steps give fill what lies behind a step.
use Rattle.std.proofs.Common.{◌≡◌, ℕ, ◌+◌, ◌-◌, ◌≤◌, ◌==◌, List, [], ◌∷◌, Bool, true, false, cond, refl, ap, arith, eqb-true}
use Rattle.glass_base.specs.Plates.{Width}
use Rattle.glass_base.specs.Problem.{Problem}
use Rattle.cut_model.specs.declared.family.Sort.{Sort}
use Rattle.cut_model.specs.Tree.{Forest, nothing, piece, total_size}
use Rattle.plan_trace.specs.Marks.{Level, NewPlate, NewStrip, NewBand, NewCell, Over, Spot, spot, Cut}
use Rattle.plan_trace.specs.TraceRules.{Rules, EachStep}
use Rattle.plan_trace.specs.Canonical.{Grown, grown, gap, start_of, end_sort}
use Rattle.plan_trace.proofs.Inside.{Fits, Sound}

gap_cases : (from to : ℕ) (sort : Sort) (later : Forest) (same : Bool) → (from == to) ≡ same → from ≤ to → from + total_size (cond same later (piece (to - from) sort nothing later)) ≡ to + total_size later
gap_cases from to sort later true e h = let f : from ≡ to = eqb-true from to e in omega arith
gap_cases from to sort later false e h = omega arith

pub gap_total : (from to : ℕ) (sort : Sort) (later : Forest) → from ≤ to → from + total_size (gap from to sort later) ≡ to + total_size later
gap_total from to sort later h = gap_cases from to sort later (from == to) refl h

pub record Totals (b : Problem) (s : Cut) (g : Grown) : Type 0 where
  pub cells : (s.e + s.cell_w) + total_size (gap (s.e + s.cell_w) (start_of g.cells g.from s.b) Sort.Waste g.cells) ≡ s.b
  pub bands : s.d + total_size (gap s.d (start_of g.bands g.low b.params.height) Sort.Waste g.bands) ≡ b.params.height
  pub strips : s.b + total_size (gap s.b (start_of g.strips g.left (Width b s.plate)) (end_sort g.plates g.strips) g.strips) ≡ Width b s.plate

pub totals : (b : Problem) (m : Level) (s : Cut) (later : List Spot) → Fits b s → EachStep (Rules b) m s later → EachStep (λ _ t l s _. Sound b l t s) m s later →
    Totals b s (grown b later)
totals b m s [] fits r ok = record { cells = omega (arith, gap_total _ _ Sort.Waste nothing fits.right); bands = omega (arith, gap_total _ _ Sort.Waste nothing fits.high); strips = omega (arith, gap_total _ _ Sort.Residual nothing fits.within) }
totals b m s (spot NewPlate n ∷ later) fits r ok =
    record {
      cells = omega (arith, gap_total (s.e + s.cell_w) s.b Sort.Waste nothing fits.right);
      bands = omega (arith, gap_total s.d b.params.height Sort.Waste nothing fits.high);
      strips = omega (arith, gap_total s.b (Width b s.plate) Sort.Waste nothing fits.within);
    }
totals b m s (spot NewStrip n ∷ later) fits r ok =
    let next : Totals b n (grown b later) = totals b NewStrip n later ok.0.fits r.1 ok.1 in
    record {
      cells = omega (arith, gap_total (s.e + s.cell_w) s.b Sort.Waste nothing fits.right);
      bands = omega (arith, gap_total s.d b.params.height Sort.Waste nothing fits.high);
      strips = omega (arith, gap_total s.b n.a (end_sort (grown b (spot NewStrip n ∷ later)).plates (grown b (spot NewStrip n ∷ later)).strips) (grown b (spot NewStrip n ∷ later)).strips (omega (arith, r.0.tr4.0)), next.strips, ap (Width b) ok.0.plate_is, ok.0.fits.ends);
    }
totals b m s (spot NewBand n ∷ later) fits r ok =
    let next : Totals b n (grown b later) = totals b NewBand n later ok.0.fits r.1 ok.1 in
    record {
      cells = omega (arith, gap_total (s.e + s.cell_w) s.b Sort.Waste nothing fits.right);
      bands = omega (arith, gap_total s.d n.c Sort.Waste (grown b (spot NewBand n ∷ later)).bands (omega (arith, r.0.tr5)), next.bands, ok.0.fits.ends);
      strips = rw (ok.0.inherits.1, ok.0.plate_is) at next.strips;
    }
totals b m s (spot NewCell n ∷ later) fits r ok =
    let next : Totals b n (grown b later) = totals b NewCell n later ok.0.fits r.1 ok.1 in
    let cells = rw ok.0.follows.adds.0 at next.cells in
    record {
      cells = omega (arith, gap_total (s.e + s.cell_w) n.e Sort.Waste (grown b (spot NewCell n ∷ later)).cells (omega (arith, r.0.tr6.0)), cells, ok.0.inherits.1);
      bands = rw ok.0.inherits.3 at next.bands;
      strips = rw (ok.0.inherits.1, ok.0.plate_is) at next.strips;
    }
totals b m s (spot Over n ∷ later) fits r ok =
    let next : Totals b n (grown b later) = totals b Over n later ok.0.fits r.1 ok.1 in
    record {
      cells = rw (ok.0.inherits.4, ok.0.follows.adds.0, ok.0.inherits.1) at next.cells;
      bands = rw ok.0.inherits.3 at next.bands;
      strips = rw (ok.0.inherits.1, ok.0.plate_is) at next.strips;
    }
