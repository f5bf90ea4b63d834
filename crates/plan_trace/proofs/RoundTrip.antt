-- The trace of the canonical plan of a trace is that trace.
use Rattle.std.proofs.Common.{◌≡◌, ℕ, suc, zero, ◌+◌, ◌-◌, ◌≤◌, ◌==◌, List, [], ◌∷◌, ◌++◌, Bool, true, false, cond, refl, sym, arith, eqb-true, ap, ◌∙◌, Option, Some, None, append_assoc, subst}
use Rattle.glass_base.specs.Plates.{Width}
use Rattle.glass_base.specs.Problem.{Problem}
use Rattle.cut_model.specs.declared.family.Sort.{Sort}
use Rattle.cut_model.specs.declared.steps.Step.{Step}
use Rattle.cut_model.specs.Sized.{sized}
use Rattle.cut_model.specs.Traces.{Sides, enter, steps_in, step_of, next_kind, lift_behind, outside}
use Rattle.cut_model.specs.Tree.{Forest, nothing, piece, total_size}
use Rattle.plan_trace.specs.Marks.{Level, NewPlate, NewStrip, NewBand, NewCell, Over, Spot, spot, Cut}
use Rattle.plan_trace.specs.TraceRules.{Rules, EachStep}
use Rattle.plan_trace.specs.Canonical.{Grown, grown, gap, start_of, end_sort, hoisted_sort, hoisted_inner, cell_pieces, item_id}
use Rattle.plan_trace.proofs.Inside.{Fits, Sound}
use Rattle.plan_trace.proofs.Totals.{Totals, totals, gap_total}

-- the sides around a piece
abbrev pub sides_at : Problem → ℕ → Sides → ℕ → ℕ → Sides
sides_at b level r at size = enter level r at size

-- the step of a cut
abbrev pub own_step : Cut → Step
own_step s = record { stack = s.draw.stack; turn = s.draw.turn; kind = s.draw.kind; lift = s.draw.lift; a = s.a; b = s.b; c = s.c; d = s.d; e = s.e }

-- a waste or a residual in a gap has no step
abbrev pub IsNoItem : Sort → Type 0
IsNoItem Sort.Waste = Unit {0}
IsNoItem Sort.Residual = Unit {0}
IsNoItem _ = ⊥

pub gap_steps : (b : Problem) (cut : ℕ) (r : Sides) (from to k : ℕ) (sort : Sort) (later : Forest) → IsNoItem sort → lift_behind cut sort ≡ 0 → from ≤ to →
    steps_in b cut r from k 0 (gap from to sort later) ≡ steps_in b cut r to k 0 later
gap_steps b cut r from to k sort later empty low h = go (from == to) refl
  where
    past : (s : Sort) → IsNoItem s → lift_behind cut s ≡ 0 → from + (to - from) ≡ to → steps_in b cut r from k 0 (piece (to - from) s nothing later) ≡ steps_in b cut r to k 0 later
    past Sort.Waste n e p = rw (e, p) refl
    past Sort.Residual n e p = rw (e, p) refl
    past (Sort.Item i) n e p = elim n [ ]
    past Sort.Branch n e p = elim n [ ]

    go : (same : Bool) → (from == to) ≡ same → steps_in b cut r from k 0 (cond same later (piece (to - from) sort nothing later)) ≡ steps_in b cut r to k 0 later
    go true e = ap (λ n. steps_in b cut r n k 0 later) (eqb-true from to e)
    go false e = past sort empty low (omega arith)

-- a piece that is cut into its item alone has the same steps as the item
hoisted2 : (b : Problem) (r : Sides) (at k size : ℕ) (inner later : Forest) → total_size inner ≡ r.width →
    steps_in b 2 r at k 0 (piece size (hoisted_sort inner) (hoisted_inner inner) later)
    ≡ steps_in b 3 (sides_at b 2 r at size) r.e k 0 inner ++ steps_in b 2 r (at + size) (next_kind (steps_in b 3 (sides_at b 2 r at size) r.e k 0 inner) k 2) 0 later
hoisted2 b r at k size nothing later e = refl
hoisted2 b r at k size (piece n (Sort.Item i) nothing nothing) later e =
    let f : r.width ≡ n = omega arith in
    ap (λ w. step_of b (record (sides_at b 2 r at size) { width = w }) k 0 i ∷ steps_in b 2 r (at + size) 2 0 later) f
hoisted2 b r at k size (piece n (Sort.Item i) nothing (piece x y z w)) later e = refl
hoisted2 b r at k size (piece n (Sort.Item i) (piece x y z w) more) later e = refl
hoisted2 b r at k size (piece n Sort.Waste inner more) later e = refl
hoisted2 b r at k size (piece n Sort.Branch inner more) later e = refl
hoisted2 b r at k size (piece n Sort.Residual inner more) later e = refl

hoisted1 : (b : Problem) (r : Sides) (at k size : ℕ) (inner later : Forest) → r.c + total_size inner ≡ r.d →
    steps_in b 1 r at k 0 (piece size (hoisted_sort inner) (hoisted_inner inner) later)
    ≡ steps_in b 2 (sides_at b 1 r at size) r.c k 0 inner ++ steps_in b 1 r (at + size) (next_kind (steps_in b 2 (sides_at b 1 r at size) r.c k 0 inner) k 1) 0 later
hoisted1 b r at k size nothing later e = refl
hoisted1 b r at k size (piece n (Sort.Item i) nothing nothing) later e =
    let f : r.d ≡ r.c + n = omega arith in
    ap (λ w. step_of b (record (sides_at b 1 r at size) { d = w }) k 0 i ∷ steps_in b 1 r (at + size) 1 0 later) f
hoisted1 b r at k size (piece n (Sort.Item i) nothing (piece x y z w)) later e = refl
hoisted1 b r at k size (piece n (Sort.Item i) (piece x y z w) more) later e = refl
hoisted1 b r at k size (piece n Sort.Waste inner more) later e = refl
hoisted1 b r at k size (piece n Sort.Branch inner more) later e = refl
hoisted1 b r at k size (piece n Sort.Residual inner more) later e = refl

hoisted3 : (b : Problem) (r : Sides) (at k size : ℕ) (inner later : Forest) →
    steps_in b 3 r at k 0 (piece size (hoisted_sort inner) (hoisted_inner inner) later)
    ≡ steps_in b 4 (sides_at b 3 r at size) r.c k 0 inner ++ steps_in b 3 r (at + size) (next_kind (steps_in b 4 (sides_at b 3 r at size) r.c k 0 inner) k 3) 0 later
hoisted3 b r at k size nothing later = refl
hoisted3 b r at k size (piece n (Sort.Item i) nothing nothing) later = refl
hoisted3 b r at k size (piece n (Sort.Item i) nothing (piece x y z w)) later = refl
hoisted3 b r at k size (piece n (Sort.Item i) (piece x y z w) more) later = refl
hoisted3 b r at k size (piece n Sort.Waste inner more) later = refl
hoisted3 b r at k size (piece n Sort.Branch inner more) later = refl
hoisted3 b r at k size (piece n Sort.Residual inner more) later = refl

abbrev pub kind_of : Level → ℕ
kind_of NewPlate = 0
kind_of NewStrip = 1
kind_of NewBand = 2
kind_of NewCell = 3
kind_of Over = 4

-- the item of a step, found again in the batch, gives the step
abbrev pub Back : Problem → Level → Cut → Type 0
Back b l s =
    (r : Sides) → r.width ≡ s.w → r.a ≡ s.a → r.b ≡ s.b → r.c ≡ s.c → r.d ≡ s.d → r.e ≡ s.e →
    step_of b r (kind_of l) s.draw.lift (item_id s.item) ≡ own_step s

-- the item over another one in a cell
abbrev over_steps : Problem → Sides → Option (ℕ × ℕ) → List Step
over_steps b r None = []
over_steps b r (Some above) = step_of b r 4 0 above.1 ∷ []

gap_above : (b : Problem) (r : Sides) (at k h height : ℕ) → steps_in b 4 r at k 0 (gap h height Sort.Waste nothing) ≡ []
gap_above b r at k h height = elim (h == height) as (λ same. steps_in b 4 r at k 0 (cond same nothing (piece (height - h) Sort.Waste nothing nothing)) ≡ []) [ true ↦ refl | false ↦ refl ]

-- the steps of the pieces of a cell
cell_steps : (b : Problem) (r : Sides) (at k height h id lift : ℕ) (above : Option (ℕ × ℕ)) → lift ≤ 1 → (1 ≤ lift → (h == height) ≡ false) → ((above ≡ None → ⊥) → lift ≡ 0) →
    steps_in b 4 r at k 0 (cell_pieces above lift height h id) ≡ step_of b r k lift id ∷ over_steps b r above
cell_steps b r at k height h id zero (Some above) le low alone = refl
cell_steps b r at k height h id (suc n) (Some above) le low alone = absurd (omega (arith, alone (λ e. cc)))
cell_steps b r at k height h id zero None le low alone = ap (λ l. step_of b r k 0 id ∷ l) (gap_above b r (at + h) 4 h height)
cell_steps b r at k height h id (suc zero) None le low alone = rw (low (omega arith)) refl
cell_steps b r at k height h id (suc (suc n)) None le low alone = absurd (omega arith)

-- what the cell of a step that begins one needs of the step and of what stands over it
pub record CellReady (n : Cut) (above : Option (ℕ × ℕ)) : Type 0 where
  pub one : n.draw.lift ≤ 1
  pub apart : 1 ≤ n.draw.lift → (n.h == n.d - n.c) ≡ false
  pub alone : (above ≡ None → ⊥) → n.draw.lift ≡ 0

-- these sides are those of the step
record Matches (r : Sides) (n : Cut) : Type 0 where
  a : r.a ≡ n.a
  b : r.b ≡ n.b
  c : r.c ≡ n.c
  d : r.d ≡ n.d

abbrev cell_of : Cut → Option (ℕ × ℕ) → Forest
cell_of n above = cell_pieces above n.draw.lift (n.d - n.c) n.h (item_id n.item)

cell_part : (b : Problem) (l : Level) (n : Cut) (above : Option (ℕ × ℕ)) (r : Sides) (rest : Forest) → Back b l n → Matches r n → CellReady n above →
    steps_in b 3 r n.e (kind_of l) 0 (piece n.w (hoisted_sort (cell_of n above)) (hoisted_inner (cell_of n above)) rest)
    ≡ own_step n ∷ (over_steps b (sides_at b 3 r n.e n.w) above ++ steps_in b 3 r (n.e + n.w) 3 0 rest)
cell_part b l n above r rest back same ready =
    hoisted3 b r n.e (kind_of l) n.w (cell_of n above) rest
    ∙ ap (λ x. x ++ steps_in b 3 r (n.e + n.w) (next_kind x (kind_of l) 3) 0 rest)
    (cell_steps b (sides_at b 3 r n.e n.w) r.c (kind_of l) (n.d - n.c) n.h (item_id n.item) n.draw.lift above ready.one ready.apart ready.alone
    ∙ ap (λ x. x ∷ over_steps b (sides_at b 3 r n.e n.w) above) (back (sides_at b 3 r n.e n.w) refl same.a same.b same.c same.d refl))

-- the pieces of a band with a first cell at a step
abbrev band_inner : Cut → Option (ℕ × ℕ) → Forest → Forest
band_inner n above rest = gap n.a n.e Sort.Waste (piece n.w (hoisted_sort (cell_of n above)) (hoisted_inner (cell_of n above)) rest)

abbrev pub band_sides : Problem → Sides → Cut → Sides
band_sides b r n = sides_at b 2 r n.c (n.d - n.c)

band_part : (b : Problem) (l : Level) (n : Cut) (above : Option (ℕ × ℕ)) (r : Sides) (rest later : Forest) → Back b l n → r.a ≡ n.a → r.b ≡ n.b → r.e ≡ n.a → n.c ≤ n.d → n.a ≤ n.e → CellReady n above →
    total_size (band_inner n above rest) ≡ r.width →
    steps_in b 2 r n.c (kind_of l) 0 (piece (n.d - n.c) (hoisted_sort (band_inner n above rest)) (hoisted_inner (band_inner n above rest)) later)
    ≡ own_step n ∷ ((over_steps b (sides_at b 3 (band_sides b r n) n.e n.w) above ++ steps_in b 3 (band_sides b r n) (n.e + n.w) 3 0 rest) ++ steps_in b 2 r n.d 2 0 later)
band_part b l n above r rest later back ea eb ee cd ae ready full =
    hoisted2 b r n.c (kind_of l) (n.d - n.c) (band_inner n above rest) later full
    ∙ ap (λ x. x ++ steps_in b 2 r (n.c + (n.d - n.c)) (next_kind x (kind_of l) 2) 0 later)
    (ap (λ x. steps_in b 3 (band_sides b r n) x (kind_of l) 0 (band_inner n above rest)) ee
    ∙ gap_steps b 3 (band_sides b r n) n.a n.e (kind_of l) Sort.Waste (piece n.w (hoisted_sort (cell_of n above)) (hoisted_inner (cell_of n above)) rest) tt refl ae
    ∙ cell_part b l n above (band_sides b r n) rest back (record { a = ea; b = eb; c = refl; d = omega arith }) ready)
    ∙ ap (λ x. own_step n ∷ ((over_steps b (sides_at b 3 (band_sides b r n) n.e n.w) above ++ steps_in b 3 (band_sides b r n) (n.e + n.w) 3 0 rest) ++ steps_in b 2 r x 2 0 later)) (omega arith)

-- the pieces of a strip with a first band at a step
abbrev strip_inner : Cut → Option (ℕ × ℕ) → Forest → Forest → Forest
strip_inner n above rest later =
    gap 0 n.c Sort.Waste (piece (n.d - n.c) (hoisted_sort (band_inner n above rest)) (hoisted_inner (band_inner n above rest)) later)

abbrev pub plate_sized : Problem → ℕ → Sides
plate_sized b size = sides_at b 0 (outside b) 0 size

abbrev pub plate_sides : Problem → ℕ → Sides
plate_sides b plate = plate_sized b (Width b plate)

abbrev pub strip_sides : Problem → Cut → Sides
strip_sides b n = sides_at b 1 (plate_sides b n.plate) n.a (n.b - n.a)

strip_part : (b : Problem) (l : Level) (n : Cut) (plate : ℕ) (above : Option (ℕ × ℕ)) (rest later more : Forest) → Back b l n → n.a ≤ n.b → n.c ≤ n.d → n.a ≤ n.e → CellReady n above →
    total_size (band_inner n above rest) ≡ n.b - n.a → total_size (strip_inner n above rest later) ≡ b.params.height →
    steps_in b 1 (plate_sides b plate) n.a (kind_of l) 0 (piece (n.b - n.a) (hoisted_sort (strip_inner n above rest later)) (hoisted_inner (strip_inner n above rest later)) more)
    ≡ own_step n ∷ (((over_steps b (sides_at b 3 (band_sides b (strip_sides b n) n) n.e n.w) above ++ steps_in b 3 (band_sides b (strip_sides b n) n) (n.e + n.w) 3 0 rest)
    ++ steps_in b 2 (strip_sides b n) n.d 2 0 later) ++ steps_in b 1 (plate_sides b plate) n.b 1 0 more)
strip_part b l n plate above rest later more back ab cd ae ready full whole =
    hoisted1 b (plate_sides b plate) n.a (kind_of l) (n.b - n.a) (strip_inner n above rest later) more (omega (arith, whole))
    ∙ ap (λ x. x ++ steps_in b 1 (plate_sides b plate) (n.a + (n.b - n.a)) (next_kind x (kind_of l) 1) 0 more)
    (gap_steps b 2 (strip_sides b n) 0 n.c (kind_of l) Sort.Waste (piece (n.d - n.c) (hoisted_sort (band_inner n above rest)) (hoisted_inner (band_inner n above rest)) later) tt refl (omega arith)
    ∙ band_part b l n above (strip_sides b n) rest later back refl (omega arith) refl cd ae ready full)
    ∙ ap (λ x. own_step n ∷ (((over_steps b (sides_at b 3 (band_sides b (strip_sides b n) n) n.e n.w) above ++ steps_in b 3 (band_sides b (strip_sides b n) n) (n.e + n.w) 3 0 rest)
    ++ steps_in b 2 (strip_sides b n) n.d 2 0 later) ++ steps_in b 1 (plate_sides b plate) x 1 0 more)) (omega arith)

-- the steps that follow a step's strip, its band and its cell, as the pieces give them
abbrev pub strips_from : Problem → ℕ → ℕ → Cut → Grown → List Step
strips_from b plate next s g =
    steps_in b 1 (plate_sides b plate) s.b 1 0 (gap s.b (start_of g.strips g.left (Width b plate)) (end_sort g.plates g.strips) g.strips)
    ++ steps_in b 0 (outside b) 0 0 0 (sized b next g.plates)

abbrev pub from_strips : Problem → Cut → Grown → List Step
from_strips b s g = strips_from b s.plate s.plates s g

abbrev pub from_bands : Problem → Cut → Grown → List Step
from_bands b s g = steps_in b 2 (strip_sides b s) s.d 2 0 (gap s.d (start_of g.bands g.low b.params.height) Sort.Waste g.bands) ++ from_strips b s g

abbrev pub emitted : Problem → Cut → Grown → List Step
emitted b s g =
    steps_in b 3 (band_sides b (strip_sides b s) s) (s.e + s.cell_w) 3 0 (gap (s.e + s.cell_w) (start_of g.cells g.from s.b) Sort.Waste g.cells) ++ from_bands b s g

-- the steps behind a step's cell, and all
abbrev pub all_steps : List Spot → List Step
all_steps [] = []
all_steps (spot _ n ∷ later) = own_step n ∷ all_steps later

abbrev pub behind_cell : List Spot → List Step
behind_cell (spot Over n ∷ later) = all_steps later
behind_cell later = all_steps later

no_item : (plates : Forest) (strips : Forest) → IsNoItem (end_sort plates strips)
no_item nothing nothing = tt
no_item nothing (piece _ _ _ _) = tt
no_item (piece _ _ _ _) strips = tt

low_end : (plates : Forest) (strips : Forest) → lift_behind 1 (end_sort plates strips) ≡ 0
low_end nothing nothing = refl
low_end nothing (piece _ _ _ _) = refl
low_end (piece _ _ _ _) strips = refl

joined : (a b c d : List Step) → b ++ c ≡ d → (a ++ b) ++ c ≡ a ++ d
joined a b c d e = append_assoc a b c ∙ ap (λ x. a ++ x) e

joined2 : (a b c d e : List Step) → b ++ (c ++ d) ≡ e → ((a ++ b) ++ c) ++ d ≡ a ++ e
joined2 a b c d e h = append_assoc (a ++ b) c d ∙ joined a b (c ++ d) e h

joined3 : (a b c d e f : List Step) → b ++ (c ++ (d ++ e)) ≡ f → (((a ++ b) ++ c) ++ d) ++ e ≡ a ++ f
joined3 a b c d e f h = append_assoc ((a ++ b) ++ c) d e ∙ joined2 a b c (d ++ e) f h

not_twice : (b : Problem) (n : Cut) (later : List Spot) → EachStep (Rules b) Over n later → behind_cell later ≡ all_steps later
not_twice b n [] r = refl
not_twice b n (spot NewPlate o ∷ later) r = refl
not_twice b n (spot NewStrip o ∷ later) r = refl
not_twice b n (spot NewBand o ∷ later) r = refl
not_twice b n (spot NewCell o ∷ later) r = refl
not_twice b n (spot Over o ∷ later) r = absurd (r.0.tr7.3 refl)

-- an item over the one of a step, and the steps behind their cell
over_then : (b : Problem) (l : Level) (n : Cut) (around : Sides) (later : List Spot) → EachStep (Rules b) l n later → EachStep (λ _ _ l s _. Back b l s) l n later →
    around.width ≡ n.w → around.a ≡ n.a → around.b ≡ n.b → around.c ≡ n.c → around.d ≡ n.d → around.e ≡ n.e →
    over_steps b around (grown b later).above ++ behind_cell later ≡ all_steps later
over_then b l n around [] r back ew ea eb ec ed ee = refl
over_then b l n around (spot NewPlate o ∷ later) r back ew ea eb ec ed ee = refl
over_then b l n around (spot NewStrip o ∷ later) r back ew ea eb ec ed ee = refl
over_then b l n around (spot NewBand o ∷ later) r back ew ea eb ec ed ee = refl
over_then b l n around (spot NewCell o ∷ later) r back ew ea eb ec ed ee = refl
over_then b l n around (spot Over o ∷ later) r back ew ea eb ec ed ee =
    let e : step_of b around 4 o.draw.lift (item_id o.item) ≡ own_step o =
    back.0 around (omega (arith, r.0.tr7.1)) (omega (arith, r.0.tr3.3)) (omega (arith, r.0.tr3.3)) (omega (arith, r.0.tr3.3)) (omega (arith, r.0.tr3.3)) (omega (arith, r.0.tr3.3)) in
    ap (λ x. x ∷ all_steps later) (subst (λ v. step_of b around 4 v (item_id o.item) ≡ own_step o) r.0.tr7.0 e)

next_zero : (steps : List Step) → next_kind steps 0 0 ≡ 0
next_zero [] = refl
next_zero (s ∷ steps) = refl

-- plates have the same steps wherever their list begins
anywhere : (b : Problem) (at kind lift : ℕ) (plates : Forest) → steps_in b 0 (outside b) at kind lift plates ≡ steps_in b 0 (outside b) 0 kind lift plates
anywhere b at kind lift nothing = refl
anywhere b at kind lift (piece size (Sort.Item number) inner later) =
    ap (λ steps. step_of b (plate_sized b size) kind lift number ∷ steps) (anywhere b (at + size) 0 0 later ∙ sym (anywhere b (0 + size) 0 0 later))
anywhere b at kind lift (piece size Sort.Waste inner later) = anywhere b (at + size) kind 0 later ∙ sym (anywhere b (0 + size) kind 0 later)
anywhere b at kind lift (piece size Sort.Residual inner later) = anywhere b (at + size) kind 0 later ∙ sym (anywhere b (0 + size) kind 0 later)
anywhere b at kind lift (piece size Sort.Branch inner later) =
    let here : List Step = steps_in b 1 (plate_sized b size) 0 kind 0 inner in
    ap (λ steps. here ++ steps) (anywhere b (at + size) (next_kind here kind 0) 0 later ∙ sym (anywhere b (0 + size) (next_kind here kind 0) 0 later))

pub emits : (b : Problem) (m : Level) (s : Cut) (later : List Spot) → Fits b s → EachStep (Rules b) m s later → EachStep (λ _ t l s _. Sound b l t s) m s later →
    EachStep (λ _ _ l s _. Back b l s) m s later → EachStep (λ _ _ l s rest. CellReady s (grown b rest).above) m s later →
    emitted b s (grown b later) ≡ behind_cell later
emits b m s [] fits r ok back ready =
    rw (
      gap_steps b 3 (band_sides b (strip_sides b s) s) (s.e + s.cell_w) s.b 3 Sort.Waste nothing tt refl fits.right,
      gap_steps b 2 (strip_sides b s) s.d b.params.height 2 Sort.Waste nothing tt refl fits.high,
      gap_steps b 1 (plate_sides b s.plate) s.b (Width b s.plate) 1 Sort.Residual nothing tt refl fits.within,
    ) refl
emits b m s (spot NewPlate n ∷ later) fits r ok back ready =
    let g : Grown = grown b later in
    let now : Grown = grown b (spot NewPlate n ∷ later) in
    let tot : Totals b n g = totals b NewPlate n later ok.0.fits r.1 ok.1 in
    let ih : emitted b n g ≡ behind_cell later = emits b NewPlate n later ok.0.fits r.1 ok.1 back.1 ready.1 in
    let next : n.plates ≡ n.plate + 1 = omega (arith, ok.0.follows.plate, r.0.tr1.0) in
    let here = rw (ok.0.follows.adds.0, next) at ih in
    let wide : ℕ = Width b n.plate in
    let plates : Forest = sized b (n.plate + 1) g.plates in
    let cells = rw ok.0.follows.adds.0 at tot.cells in
    let rest : Forest = gap (n.e + n.w) (start_of g.cells g.from n.b) Sort.Waste g.cells in
    let bands : Forest = gap n.d (start_of g.bands g.low b.params.height) Sort.Waste g.bands in
    let strips : Forest = gap n.b (start_of g.strips g.left wide) (end_sort g.plates g.strips) g.strips in
    let around : Sides = band_sides b (strip_sides b n) n in
    let over : List Step = over_steps b (sides_at b 3 around n.e n.w) g.above in
    let first : List Step = steps_in b 1 (plate_sides b n.plate) 0 0 0 (gap 0 n.a Sort.Waste (piece (n.b - n.a) (hoisted_sort (strip_inner n g.above rest bands)) (hoisted_inner (strip_inner n g.above rest bands)) strips)) in
    let full : total_size (band_inner n g.above rest) ≡ n.b - n.a =
    omega (arith, cells, gap_total n.a n.e Sort.Waste (piece n.w (hoisted_sort (cell_of n g.above)) (hoisted_inner (cell_of n g.above)) rest) (omega (arith, ok.0.fits.ends))) in
    let whole : total_size (strip_inner n g.above rest bands) ≡ b.params.height =
    omega (arith, tot.bands, ok.0.fits.ends, gap_total 0 n.c Sort.Waste (piece (n.d - n.c) (hoisted_sort (band_inner n g.above rest)) (hoisted_inner (band_inner n g.above rest)) bands) (omega arith)) in
    ap (λ x. x ++ from_bands b s now) (gap_steps b 3 (band_sides b (strip_sides b s) s) (s.e + s.cell_w) s.b 3 Sort.Waste nothing tt refl fits.right)
    ∙ ap (λ x. x ++ from_strips b s now) (gap_steps b 2 (strip_sides b s) s.d b.params.height 2 Sort.Waste nothing tt refl fits.high)
    ∙ ap (λ x. x ++ steps_in b 0 (outside b) 0 0 0 (sized b s.plates now.plates)) (gap_steps b 1 (plate_sides b s.plate) s.b (Width b s.plate) 1 Sort.Waste nothing tt refl fits.within)
    ∙ ap (λ q. steps_in b 0 (outside b) 0 0 0 (sized b q now.plates)) (sym ok.0.plate_is)
    ∙ ap (λ k. first ++ steps_in b 0 (outside b) (0 + wide) k 0 plates) (next_zero first)
    ∙ ap (λ x. first ++ x) (anywhere b (0 + wide) 0 0 plates)
    ∙ ap (λ x. x ++ steps_in b 0 (outside b) 0 0 0 plates)
    (gap_steps b 1 (plate_sides b n.plate) 0 n.a 0 Sort.Waste (piece (n.b - n.a) (hoisted_sort (strip_inner n g.above rest bands)) (hoisted_inner (strip_inner n g.above rest bands)) strips) tt refl (omega arith)
    ∙ strip_part b NewPlate n n.plate g.above rest bands strips back.0 (omega (arith, ok.0.fits.ends)) (omega (arith, ok.0.fits.ends)) (omega (arith, ok.0.fits.ends)) ready.0 full whole)
    ∙ ap (λ x. own_step n ∷ x) (joined3 over (steps_in b 3 around (n.e + n.w) 3 0 rest) (steps_in b 2 (strip_sides b n) n.d 2 0 bands) (steps_in b 1 (plate_sides b n.plate) n.b 1 0 strips) (steps_in b 0 (outside b) 0 0 0 plates) (behind_cell later) here
    ∙ over_then b NewPlate n (sides_at b 3 around n.e n.w) later r.1 back.1 refl refl (omega (arith, ok.0.fits.ends)) refl (omega (arith, ok.0.fits.ends)) refl)
emits b m s (spot NewStrip n ∷ later) fits r ok back ready =
    let g : Grown = grown b later in
    let now : Grown = grown b (spot NewStrip n ∷ later) in
    let tot : Totals b n g = totals b NewStrip n later ok.0.fits r.1 ok.1 in
    let ih : emitted b n g ≡ behind_cell later = emits b NewStrip n later ok.0.fits r.1 ok.1 back.1 ready.1 in
    let here = rw ok.0.follows.adds.0 at ih in
    let plates : Forest = sized b n.plates g.plates in
    let cells = rw ok.0.follows.adds.0 at tot.cells in
    let rest : Forest = gap (n.e + n.w) (start_of g.cells g.from n.b) Sort.Waste g.cells in
    let bands : Forest = gap n.d (start_of g.bands g.low b.params.height) Sort.Waste g.bands in
    let strips : Forest = gap n.b (start_of g.strips g.left (Width b n.plate)) (end_sort g.plates g.strips) g.strips in
    let around : Sides = band_sides b (strip_sides b n) n in
    let over : List Step = over_steps b (sides_at b 3 around n.e n.w) g.above in
    let full : total_size (band_inner n g.above rest) ≡ n.b - n.a =
    omega (arith, cells, gap_total n.a n.e Sort.Waste (piece n.w (hoisted_sort (cell_of n g.above)) (hoisted_inner (cell_of n g.above)) rest) (omega (arith, ok.0.fits.ends))) in
    let whole : total_size (strip_inner n g.above rest bands) ≡ b.params.height =
    omega (arith, tot.bands, ok.0.fits.ends, gap_total 0 n.c Sort.Waste (piece (n.d - n.c) (hoisted_sort (band_inner n g.above rest)) (hoisted_inner (band_inner n g.above rest)) bands) (omega arith)) in
    ap (λ x. x ++ from_bands b s now) (gap_steps b 3 (band_sides b (strip_sides b s) s) (s.e + s.cell_w) s.b 3 Sort.Waste nothing tt refl fits.right)
    ∙ ap (λ x. x ++ from_strips b s now) (gap_steps b 2 (strip_sides b s) s.d b.params.height 2 Sort.Waste nothing tt refl fits.high)
    ∙ ap (λ q. strips_from b q s.plates s now) (sym ok.0.plate_is)
    ∙ ap (λ q. strips_from b n.plate q s now) (sym ok.0.follows.counts)
    ∙ ap (λ x. x ++ steps_in b 0 (outside b) 0 0 0 plates)
    (gap_steps b 1 (plate_sides b n.plate) s.b n.a 1 (end_sort now.plates now.strips) (piece (n.b - n.a) (hoisted_sort (strip_inner n g.above rest bands)) (hoisted_inner (strip_inner n g.above rest bands)) strips)
    (no_item now.plates now.strips) (low_end now.plates now.strips) (omega (arith, r.0.tr4.0))
    ∙ strip_part b NewStrip n n.plate g.above rest bands strips back.0 (omega (arith, ok.0.fits.ends)) (omega (arith, ok.0.fits.ends)) (omega (arith, ok.0.fits.ends)) ready.0 full whole)
    ∙ ap (λ x. own_step n ∷ x) (joined3 over (steps_in b 3 around (n.e + n.w) 3 0 rest) (steps_in b 2 (strip_sides b n) n.d 2 0 bands) (steps_in b 1 (plate_sides b n.plate) n.b 1 0 strips) (steps_in b 0 (outside b) 0 0 0 plates) (behind_cell later) here
    ∙ over_then b NewStrip n (sides_at b 3 around n.e n.w) later r.1 back.1 refl refl (omega (arith, ok.0.fits.ends)) refl (omega (arith, ok.0.fits.ends)) refl)
emits b m s (spot NewBand n ∷ later) fits r ok back ready =
    let g : Grown = grown b later in
    let now : Grown = grown b (spot NewBand n ∷ later) in
    let tot : Totals b n g = totals b NewBand n later ok.0.fits r.1 ok.1 in
    let ih : emitted b n g ≡ behind_cell later = emits b NewBand n later ok.0.fits r.1 ok.1 back.1 ready.1 in
    let here = rw ok.0.follows.adds.0 at ih in
    let cells = rw ok.0.follows.adds.0 at tot.cells in
    let rest : Forest = gap (n.e + n.w) (start_of g.cells g.from n.b) Sort.Waste g.cells in
    let bands : Forest = gap n.d (start_of g.bands g.low b.params.height) Sort.Waste g.bands in
    let strip : Sides = strip_sides b s in
    let around : Sides = band_sides b strip n in
    let over : List Step = over_steps b (sides_at b 3 around n.e n.w) g.above in
    let full : total_size (band_inner n g.above rest) ≡ s.b - s.a =
    omega (arith, cells, ok.0.inherits, gap_total n.a n.e Sort.Waste (piece n.w (hoisted_sort (cell_of n g.above)) (hoisted_inner (cell_of n g.above)) rest) (omega (arith, ok.0.fits.ends))) in
    ap (λ x. x ++ from_bands b s now) (gap_steps b 3 (band_sides b (strip_sides b s) s) (s.e + s.cell_w) s.b 3 Sort.Waste nothing tt refl fits.right)
    ∙ ap (λ x. x ++ from_strips b s g)
    (gap_steps b 2 strip s.d n.c 2 Sort.Waste (piece (n.d - n.c) (hoisted_sort (band_inner n g.above rest)) (hoisted_inner (band_inner n g.above rest)) bands) tt refl (omega (arith, r.0.tr5))
    ∙ band_part b NewBand n g.above strip rest bands back.0 (omega (arith, ok.0.inherits)) (omega (arith, ok.0.inherits, fits.ends)) (omega (arith, ok.0.inherits)) (omega (arith, ok.0.fits.ends)) (omega (arith, ok.0.fits.ends)) ready.0 full)
    ∙ ap (λ x. own_step n ∷ x) (joined2 over (steps_in b 3 around (n.e + n.w) 3 0 rest) (steps_in b 2 strip n.d 2 0 bands) (from_strips b s g) (behind_cell later) (rw (← ok.0.inherits.0, ← ok.0.inherits.1, ← ok.0.plate_is, ← ok.0.follows.counts) here)
    ∙ over_then b NewBand n (sides_at b 3 around n.e n.w) later r.1 back.1 refl (omega (arith, ok.0.inherits)) (omega (arith, ok.0.inherits, fits.ends)) refl (omega (arith, ok.0.fits.ends)) refl)
emits b m s (spot NewCell n ∷ later) fits r ok back ready =
    let g : Grown = grown b later in
    let ih : emitted b n g ≡ behind_cell later = emits b NewCell n later ok.0.fits r.1 ok.1 back.1 ready.1 in
    let here = rw ok.0.follows.adds.0 at ih in
    let rest : Forest = gap (n.e + n.w) (start_of g.cells g.from n.b) Sort.Waste g.cells in
    let around : Sides = band_sides b (strip_sides b s) s in
    let over : List Step = over_steps b (sides_at b 3 around n.e n.w) g.above in
    ap (λ x. x ++ from_bands b s g)
    (gap_steps b 3 around (s.e + s.cell_w) n.e 3 Sort.Waste (piece n.w (hoisted_sort (cell_of n g.above)) (hoisted_inner (cell_of n g.above)) rest) tt refl (omega (arith, r.0.tr6.0))
    ∙ cell_part b NewCell n g.above around rest back.0 (record { a = omega (arith, ok.0.inherits); b = omega (arith, ok.0.inherits, fits.ends); c = omega (arith, ok.0.inherits); d = omega (arith, ok.0.inherits, fits.ends) }) ready.0)
    ∙ ap (λ x. own_step n ∷ x) (joined over (steps_in b 3 around (n.e + n.w) 3 0 rest) (from_bands b s g) (behind_cell later) (rw (← ok.0.inherits.0, ← ok.0.inherits.1, ← ok.0.inherits.2, ← ok.0.inherits.3, ← ok.0.plate_is, ← ok.0.follows.counts) here)
    ∙ over_then b NewCell n (sides_at b 3 around n.e n.w) later r.1 back.1 refl (omega (arith, ok.0.inherits)) (omega (arith, ok.0.inherits, fits.ends)) (omega (arith, ok.0.inherits)) (omega (arith, ok.0.inherits, fits.ends)) refl)
emits b m s (spot Over n ∷ later) fits r ok back ready =
    let ih : emitted b n (grown b later) ≡ behind_cell later = emits b Over n later ok.0.fits r.1 ok.1 back.1 ready.1 in
    rw (← ok.0.inherits.0, ← ok.0.inherits.1, ← ok.0.inherits.2, ← ok.0.inherits.3, ← ok.0.inherits.4, ← ok.0.follows.adds.0, ← ok.0.plate_is, ← ok.0.follows.counts) (ih ∙ not_twice b n later r.1)
