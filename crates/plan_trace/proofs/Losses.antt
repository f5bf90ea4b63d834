-- What the canonical plan of a trace loses: its length, less the items.
use Rattle.std.proofs.Common.{◌≡◌, ℕ, ◌+◌, ◌-◌, ◌*◌, ◌==◌, ◌≤◌, List, [], ◌∷◌, map, refl, sym, ap, ◌∙◌, arith, Bool, true, false, cond, All, mul-add, eqb-true}
use Rattle.std.proofs.lemmas.List.Elements.{All-weaker}
use Rattle.glass_base.specs.Items.{area_of}
use Rattle.glass_base.specs.Plates.{Before, Width}
use Rattle.glass_base.specs.Problem.{Problem, IsProblem}
use Rattle.glass_base.proofs.PlateLemmas.{before-next}
use Rattle.cut_model.specs.declared.family.Sort.{Sort}
use Rattle.cut_model.specs.Families.{families_of, first_plate}
use Rattle.cut_model.specs.Lawful.{IsLawful}
use Rattle.cut_model.specs.Loss.{loss_of, residual_width}
use Rattle.cut_model.specs.Rules.{KeepsCutRules}
use Rattle.cut_model.specs.Steps.{last_right, length_of, plates_begun}
use Rattle.cut_model.specs.declared.steps.Step.{Step}
use Rattle.cut_model.specs.Tree.{Forest, nothing, piece, neighbour_count}
use Rattle.loss_area.proofs.Balance.{balance}
use Rattle.loss_area.proofs.Plates.{KeepsPlace}
use Rattle.plan_trace.specs.Marks.{Level, NewPlate, NewStrip, NewBand, NewCell, Over, Draw, draw_of, Place, place_of, no_place, marks, attach, Cut, cut, Spot, spot}
use Rattle.plan_trace.specs.TraceRules.{Rules, EachStep, Meets}
use Rattle.plan_trace.specs.Canonical.{Grown, grown, canonical, gap, hoisted, hoisted_sort, hoisted_inner, start_of, end_sort}
use Rattle.plan_trace.proofs.Inside.{Sound, meets_sound}
use Rattle.plan_trace.proofs.Cuts.{strips_behind, strip_part, band_part, waste_then}
use Rattle.plan_trace.proofs.Shapes.{canonical_plates}
use Rattle.plan_trace.proofs.Residuals.{residual_among, residuals, plates_residual}

-- the last of some steps
abbrev pub last_cut : Cut → List Spot → Cut
last_cut s [] = s
last_cut s (spot _ n ∷ later) = last_cut n later

gap_residual : (from to : ℕ) (later : Forest) → residual_among (gap from to Sort.Waste later) ≡ residual_among later
gap_residual from to later = elim (from == to) as (λ same. residual_among (cond same later (piece (to - from) Sort.Waste nothing later)) ≡ residual_among later) [ true ↦ refl | false ↦ refl ]

end_residual : (from to : ℕ) → from ≤ to → residual_among (gap from to Sort.Residual nothing) + from ≡ to
end_residual from to le = go (from == to) refl
  where
    go : (same : Bool) → (from == to) ≡ same → residual_among (cond same nothing (piece (to - from) Sort.Residual nothing nothing)) + from ≡ to
    go true e = omega (arith, eqb-true from to e)
    go false e = omega (arith, le)

hoisted_residual : (size : ℕ) (inner later : Forest) → residual_among (hoisted size inner later) ≡ residual_among later
hoisted_residual size nothing later = refl
hoisted_residual size (piece n (Sort.Item number) nothing nothing) later = refl
hoisted_residual size (piece n (Sort.Item number) nothing (piece m t i l)) later = refl
hoisted_residual size (piece n (Sort.Item number) (piece m t i l) next) later = refl
hoisted_residual size (piece n Sort.Waste inner next) later = refl
hoisted_residual size (piece n Sort.Branch inner next) later = refl
hoisted_residual size (piece n Sort.Residual inner next) later = refl

-- a step on the strip of the one before leaves the same
same_left : (b : Problem) (s n : Cut) (later : List Spot) → n.b ≡ s.b → n.plate ≡ s.plate →
    residual_among (strips_behind b n (grown b later)) + residuals (grown b later).plates + (last_cut n later).b ≡ Width b (last_cut n later).plate →
    residual_among (strips_behind b s (grown b later)) + residuals (grown b later).plates + (last_cut n later).b ≡ Width b (last_cut n later).plate
same_left b s n later right plate h =
    let g : Grown = grown b later in
    let behind : ℕ → ℕ → ℕ = λ r q. residual_among (gap r (start_of g.strips g.left (Width b q)) (end_sort g.plates g.strips) g.strips) in
    omega (arith, h, ap (λ r. behind r n.plate) right ∙ ap (behind s.b) plate)

-- what is left of the last step's plate is the residual of what is behind a step
left_over : (b : Problem) (m : Level) (s : Cut) (later : List Spot) → s.b ≤ Width b s.plate → EachStep (λ _ t l s _. Sound b l t s) m s later →
    residual_among (strips_behind b s (grown b later)) + residuals (grown b later).plates + (last_cut s later).b ≡ Width b (last_cut s later).plate
left_over b m s [] le ok = omega (arith, end_residual s.b (Width b s.plate) le)
left_over b m s (spot NewPlate n ∷ later) le ok =
    omega (
      arith,
      left_over b NewPlate n later ok.0.fits.within ok.1,
      gap_residual s.b (Width b s.plate) nothing,
      gap_residual 0 n.a (strip_part b n later),
      hoisted_residual (n.b - n.a) (gap 0 n.c Sort.Waste (band_part b n later)) (strips_behind b n (grown b later)),
    )
left_over b m s (spot NewStrip n ∷ later) le ok =
    omega (
      arith,
      left_over b NewStrip n later ok.0.fits.within ok.1,
      ap (λ (sort : Sort). residual_among (gap s.b n.a sort (strip_part b n later))) (waste_then (grown b later).plates (n.b - n.a) (hoisted_sort (gap 0 n.c Sort.Waste (band_part b n later))) (hoisted_inner (gap 0 n.c Sort.Waste (band_part b n later))) (strips_behind b n (grown b later))),
      gap_residual s.b n.a (strip_part b n later),
      hoisted_residual (n.b - n.a) (gap 0 n.c Sort.Waste (band_part b n later)) (strips_behind b n (grown b later)),
    )
left_over b m s (spot NewBand n ∷ later) le ok =
    same_left b s n later ok.0.inherits.1 ok.0.plate_is (left_over b NewBand n later ok.0.fits.within ok.1)
left_over b m s (spot NewCell n ∷ later) le ok =
    same_left b s n later ok.0.inherits.1 ok.0.plate_is (left_over b NewCell n later ok.0.fits.within ok.1)
left_over b m s (spot Over n ∷ later) le ok =
    same_left b s n later ok.0.inherits.1 ok.0.plate_is (left_over b Over n later ok.0.fits.within ok.1)

-- the plates up to the last step
pub last_plates : (b : Problem) (m : Level) (s : Cut) (later : List Spot) → EachStep (Rules b) m s later → EachStep (λ _ t l s _. Sound b l t s) m s later →
    (last_cut s later).plates ≡ s.plates + neighbour_count (grown b later).plates
last_plates b m s [] r ok = omega arith
last_plates b m s (spot NewPlate n ∷ later) r ok = omega (arith, last_plates b NewPlate n later r.1 ok.1, ok.0.follows.counts, r.0.tr1.0)
last_plates b m s (spot NewStrip n ∷ later) r ok = omega (arith, last_plates b NewStrip n later r.1 ok.1, ok.0.follows.counts)
last_plates b m s (spot NewBand n ∷ later) r ok = omega (arith, last_plates b NewBand n later r.1 ok.1, ok.0.follows.counts)
last_plates b m s (spot NewCell n ∷ later) r ok = omega (arith, last_plates b NewCell n later r.1 ok.1, ok.0.follows.counts)
last_plates b m s (spot Over n ∷ later) r ok = omega (arith, last_plates b Over n later r.1 ok.1, ok.0.follows.counts)

last_plate : (b : Problem) (m : Level) (s : Cut) (later : List Spot) → s.plate ≡ s.plates - 1 → EachStep (λ _ t l s _. Sound b l t s) m s later → (last_cut s later).plate ≡ (last_cut s later).plates - 1
last_plate b m s [] is ok = is
last_plate b m s (spot l n ∷ later) is ok = last_plate b l n later ok.0.follows.plate ok.1

pub last_few : (b : Problem) (m : Level) (s : Cut) (later : List Spot) → s.plates ≤ b.params.plates → EachStep (Rules b) m s later → (last_cut s later).plates ≤ b.params.plates
last_few b m s [] le r = le
last_few b m s (spot l n ∷ later) le r = last_few b l n later r.0.tr1.1 r.1

last_right_is : (b : Problem) (before : List Draw) (t : Place) (s : Step) (ss : List Step) → last_right (s ∷ ss) ≡ (last_cut (cut t s) (attach (marks b before t (map draw_of ss)) ss)).b
last_right_is b before t s [] = refl
last_right_is b before t s (n ∷ ss) = last_right_is b (draw_of n ∷ before) (place_of b before t (draw_of n)) n ss

-- a loss, on plain numbers: `whole` is the width of all plates, `before` that of those before the last
loss_is : (loss residual area H whole before width right : ℕ) → loss + H * residual + area ≡ H * whole → whole ≡ before + width → residual + right ≡ width → loss + area ≡ H * (before + right)
loss_is loss residual area H whole before width right e parts rest =
    let split : H * whole ≡ H * (before + right) + H * residual = ap (λ n. H * n) (omega (arith, parts, rest)) ∙ mul-add H (before + right) residual in
    omega (arith, e, split)

-- the canonical plan of a trace loses its length times the height, less the items
pub canonical_loss : (b : Problem) → IsProblem b → (s : Step) (ss : List Step) → Meets b (s ∷ ss) → IsLawful b (canonical b (s ∷ ss)) →
    loss_of b (canonical b (s ∷ ss)) + area_of b.items ≡ b.params.height * length_of b (s ∷ ss)
canonical_loss b rules s ss m lawful =
    let plan : Forest = canonical b (s ∷ ss) in
    let first : Cut = cut (place_of b [] no_place (draw_of s)) s in
    let later : List Spot = attach (marks b (draw_of s ∷ []) first.place (map draw_of ss)) ss in
    let ok = meets_sound b (s ∷ ss) m in
    let last : Cut = last_cut first later in
    let places : All KeepsPlace (families_of b plan) = All-weaker (KeepsCutRules b) KeepsPlace (λ f keeps. keeps.l6) (families_of b plan) lawful.cuts in
    let residual : residual_width b plan ≡ residuals plan = plates_residual b 0 (first_plate b) true 0 plan refl lawful.shape places in
    let left = left_over b NewPlate first later ok.0.fits.within ok.1 in
    let count : neighbour_count plan ≡ plates_begun (s ∷ ss) = canonical_plates b (s ∷ ss) m in
    let many = last_plates b NewPlate first later m.1 ok.1 in
    let plate = last_plate b NewPlate first later ok.0.follows.plate ok.1 in
    let number : neighbour_count plan ≡ last.plate + 1 = omega (arith, many, plate, m.0.tr1.0, ok.0.follows.counts) in
    let before : plates_begun (s ∷ ss) - 1 ≡ last.plate = omega (arith, number, count) in
    let inner : residuals plan + last.b ≡ Width b last.plate = omega (arith, left, gap_residual 0 first.a (strip_part b first later), hoisted_residual (first.b - first.a) (gap 0 first.c Sort.Waste (band_part b first later)) (strips_behind b first (grown b later))) in
    loss_is (loss_of b plan) (residual_width b plan) (area_of b.items) b.params.height (Before b (neighbour_count plan)) (Before b (plates_begun (s ∷ ss) - 1)) (Width b last.plate) (last_right (s ∷ ss))
    (balance b plan rules lawful)
    (ap (Before b) number ∙ before-next b last.plate ∙ ap (λ n. Before b n + Width b last.plate) (sym before))
    (omega (arith, residual, last_right_is b (draw_of s ∷ []) first.place s ss, inner))
