-- What the trace rules say of each step by itself: its cell lies in its strip and its band.
use Rattle.std.proofs.Common.{◌≡◌, ℕ, zero, suc, ◌+◌, ◌-◌, ◌*◌, ◌≤◌, ◌⊎◌, List, [], ◌∷◌, IsTrue, true, refl, arith, map, inl, inr}
use Rattle.glass_base.specs.declared.params.Params.{Params}
use Rattle.glass_base.specs.Plates.{Width}
use Rattle.glass_base.specs.Problem.{Problem}
use Rattle.cut_model.specs.declared.steps.Step.{Step}
use Rattle.cut_model.specs.Steps.{plates_after}
use Rattle.plan_trace.specs.Marks.{Level, NewPlate, NewStrip, NewBand, NewCell, Over, Draw, Place, Spot, spot, spots, Cut, cut, no_cut, levels, marks, attach, draw_of, place_of, level_of, no_place, band_total, strip_width}
use Rattle.plan_trace.specs.TraceRules.{Rules, EachStep, Meets, TR1, TR2, TR3, TR4, TR5, TR6, TR7, is_last_cell, is_last_in_cell, Inherits, AloneFits}

-- the rules on items and sizes at one step, which are all but those on defects
pub record Sizes (b : Problem) (m : Level) (t : Cut) (l : Level) (s : Cut) (later : List Spot) : Type 0 where
  pub tr1 : TR1 b.params s
  pub tr2 : TR2 s
  pub tr3 : TR3 l t s
  pub tr4 : TR4 b l t s later
  pub tr5 : TR5 b.params l t s later
  pub tr6 : TR6 b.params l t s later
  pub tr7 : TR7 b.params m l t s later

pub sizes_of : (b : Problem) (m : Level) (t : Cut) (later : List Spot) → EachStep (Rules b) m t later → EachStep (Sizes b) m t later
sizes_of b m t [] r = tt
sizes_of b m t (spot l s ∷ later) r =
    (record { tr1 = r.0.tr1; tr2 = r.0.tr2; tr3 = r.0.tr3; tr4 = r.0.tr4; tr5 = r.0.tr5; tr6 = r.0.tr6; tr7 = r.0.tr7 }, sizes_of b l s later r.1)

-- how a step's cell follows from the step before
abbrev pub Adds : ℕ → Level → Place → Place → Type 0
Adds waste Over t s = (s.cell_w ≡ t.cell_w) × (s.cell_h ≡ t.cell_h + (s.h + s.draw.lift * waste)) × (s.band_w ≡ t.band_w)
Adds waste NewCell t s = (s.cell_w ≡ s.w) × (s.cell_h ≡ s.h + s.draw.lift * waste) × (s.band_w ≡ t.band_w + s.w)
Adds waste _ t s = (s.cell_w ≡ s.w) × (s.cell_h ≡ s.h + s.draw.lift * waste) × (s.band_w ≡ s.w)

-- how a step's plate follows; the second case is a first step that begins no plate
abbrev pub Counts : Level → Place → Place → Type 0
Counts NewPlate t s = (s.plates ≡ t.plates + 1) ⊎ (s.plates ≡ 0)
Counts _ t s = s.plates ≡ t.plates

pub record Follows (waste : ℕ) (l : Level) (t s : Place) : Type 0 where
  pub adds : Adds waste l t s
  pub counts : Counts l t s
  pub plate : s.plate ≡ s.plates - 1
  pub area : s.area ≡ t.area + s.w * s.h
  pub band_area : s.band_area ≡ band_total l t.band_area (s.w * s.h)
  pub strip_w : s.strip_w ≡ strip_width l t.strip_w s.band_w

-- what holds of each step by itself
pub record Fits (b : Problem) (s : Cut) : Type 0 where
  pub right : s.e + s.cell_w ≤ s.b
  pub top : s.c + s.cell_h ≤ s.d
  pub fill : s.a + s.band_w ≤ s.e + s.cell_w
  pub narrow : s.b ≤ s.a + b.params.max1
  pub within : s.b ≤ Width b s.plate
  pub high : s.d ≤ b.params.height
  pub ends : (s.a ≤ s.b) × (s.c ≤ s.d) × (s.a ≤ s.e)
  pub widest : s.a + s.strip_w ≤ s.b
  pub least : 1 ≤ s.plates → s.a + b.params.min1 ≤ s.b
  pub tall : 1 ≤ s.plates → s.c + b.params.min2 ≤ s.d

-- the plate of a step is the next one, or that of the step before
abbrev pub OnPlate : Level → Cut → Cut → Type 0
OnPlate NewPlate t s = s.plate ≡ t.plates
OnPlate _ t s = s.plate ≡ t.plate

-- what holds of a step, given the step before, with no word on the later steps
pub record Sound (b : Problem) (l : Level) (t s : Cut) : Type 0 where
  pub follows : Follows b.params.waste l t.place s.place
  pub inherits : Inherits l t s
  pub fits : Fits b s
  pub open fits use *
  pub wide : 1 ≤ s.draw.lift → b.params.waste ≤ s.w
  pub own : s.cell_w ≡ s.w
  pub plate_is : OnPlate l t s

-- the cell of a step ends within its strip, if it does so where it is the last one
right_end : (b : Problem) (m : Level) (s : Cut) (later : List Spot) →
    EachStep (Sizes b) m s later →
    EachStep (λ _ t l s _. Follows b.params.waste l t.place s.place) m s later →
    (IsTrue (is_last_cell true (levels later)) → s.e + s.cell_w ≤ s.b) → s.e + s.cell_w ≤ s.b
right_end b m s [] r ad last = last refl
right_end b m s (spot NewPlate n ∷ later) r ad last = last refl
right_end b m s (spot NewStrip n ∷ later) r ad last = last refl
right_end b m s (spot NewBand n ∷ later) r ad last = last refl
right_end b m s (spot NewCell n ∷ later) r ad last =
    let next : n.e + n.cell_w ≤ n.b = right_end b NewCell n later r.1 ad.1 (λ e. omega (arith, r.0.tr6.1 e)) in
    omega (arith, r.0.tr6.0, r.0.tr3.3)
right_end b m s (spot Over n ∷ later) r ad last =
    let next : n.e + n.cell_w ≤ n.b = right_end b Over n later r.1 ad.1 (λ e. omega (arith, last e, r.0.tr3.3, ad.0.adds)) in
    omega (arith, r.0.tr3.3, ad.0.adds)

no_lift : (n w : ℕ) → n ≡ 0 → n * w ≡ 0
no_lift n w e = rw e (omega arith)

alone_top : (p : Params) (lift : ℕ) (s : Cut) → lift ≤ 1 → AloneFits p lift s → s.c + (s.h + lift * p.waste) ≤ s.d
alone_top p zero s le f = omega arith
alone_top p (suc zero) s le f = omega arith
alone_top p (suc (suc n)) s le f = absurd (omega arith)

-- the top of a cell that begins here lies in its band
new_top : (b : Problem) (l : Level) (s : Cut) (later : List Spot) → s.draw.lift ≤ 1 →
    (IsTrue (is_last_in_cell true (levels later)) → AloneFits b.params s.draw.lift s) →
    EachStep (Sizes b) l s later → s.c + (s.h + s.draw.lift * b.params.waste) ≤ s.d
new_top b l s [] le f r = alone_top b.params s.draw.lift s le (f refl)
new_top b l s (spot NewPlate n ∷ later) le f r = alone_top b.params s.draw.lift s le (f refl)
new_top b l s (spot NewStrip n ∷ later) le f r = alone_top b.params s.draw.lift s le (f refl)
new_top b l s (spot NewBand n ∷ later) le f r = alone_top b.params s.draw.lift s le (f refl)
new_top b l s (spot NewCell n ∷ later) le f r = alone_top b.params s.draw.lift s le (f refl)
new_top b l s (spot Over n ∷ later) le f r =
    omega (arith, r.0.tr3.3, r.0.tr7, no_lift s.draw.lift b.params.waste r.0.tr7.2)

alone_wide : (p : Params) (lift : ℕ) (s : Cut) → AloneFits p lift s → 1 ≤ lift → p.waste ≤ s.w
alone_wide p zero s f h = absurd (omega arith)
alone_wide p (suc n) s f h = f.1

-- an item that is lifted is at least as wide as a waste
new_wide : (b : Problem) (l : Level) (s : Cut) (later : List Spot) → s.draw.lift ≤ 1 →
    (IsTrue (is_last_in_cell true (levels later)) → AloneFits b.params s.draw.lift s) →
    EachStep (Sizes b) l s later → 1 ≤ s.draw.lift → b.params.waste ≤ s.w
new_wide b l s [] le f r = alone_wide b.params s.draw.lift s (f refl)
new_wide b l s (spot NewPlate n ∷ later) le f r = alone_wide b.params s.draw.lift s (f refl)
new_wide b l s (spot NewStrip n ∷ later) le f r = alone_wide b.params s.draw.lift s (f refl)
new_wide b l s (spot NewBand n ∷ later) le f r = alone_wide b.params s.draw.lift s (f refl)
new_wide b l s (spot NewCell n ∷ later) le f r = alone_wide b.params s.draw.lift s (f refl)
new_wide b l s (spot Over n ∷ later) le f r = λ h. absurd (omega (arith, h, r.0.tr7.2))

-- a strip that ends on a plate ends on the same plate
pub within_same : (b : Problem) (t s plate of : ℕ) → s ≡ t → of ≡ plate → t ≤ Width b plate → s ≤ Width b of
within_same b t s plate of e f h = rw (e, f) h

-- each step of a trace that meets the rules is sound
sound : (b : Problem) (m : Level) (t : Cut) (later : List Spot) →
    EachStep (Sizes b) m t later →
    EachStep (λ _ t l s _. Follows b.params.waste l t.place s.place) m t later →
    ((m ≡ Over → ⊥) → t.cell_h ≡ t.h + t.draw.lift * b.params.waste) → Fits b t → t.cell_w ≡ t.w → t.plate ≡ t.plates - 1 →
    EachStep (λ _ t l s _. Sound b l t s) m t later
sound b m t [] r ad alone ok own was = tt
sound b m t (spot NewPlate s ∷ later) r ad alone ok own was =
    let same_plate : s.plate ≡ t.plates = omega (arith, ad.0.plate, ad.0.counts, r.0.tr1) in
    let end : s.e + s.cell_w ≤ s.b = right_end b NewPlate s later r.1 ad.1 (λ e. omega (arith, r.0.tr6.1 e)) in
    let up : s.c + (s.h + s.draw.lift * b.params.waste) ≤ s.d = new_top b NewPlate s later r.0.tr3.1 r.0.tr7 r.1 in
    let fits : Fits b s = record { right = end; top = omega (arith, up, ad.0.adds); fill = omega (arith, r.0.tr3.3, r.0.tr6.0, ad.0.adds, ok.fill); narrow = omega arith; within = r.0.tr4.3; high = omega arith; ends = omega arith; widest = omega (arith, ad.0.strip_w, end, r.0.tr6.0, ad.0.adds); least = λ _. omega arith; tall = λ _. omega arith } in (
      record { follows = ad.0; inherits = r.0.tr3.3; fits = fits; wide = new_wide b NewPlate s later r.0.tr3.1 r.0.tr7 r.1; own = ad.0.adds.0; plate_is = same_plate },
      sound b NewPlate s later r.1 ad.1 (λ _. ad.0.adds.1) fits ad.0.adds.0 ad.0.plate,
    )
sound b m t (spot NewStrip s ∷ later) r ad alone ok own was =
    let same_plate : s.plate ≡ t.plate = omega (arith, ad.0.plate, ad.0.counts, was) in
    let end : s.e + s.cell_w ≤ s.b = right_end b NewStrip s later r.1 ad.1 (λ e. omega (arith, r.0.tr6.1 e)) in
    let up : s.c + (s.h + s.draw.lift * b.params.waste) ≤ s.d = new_top b NewStrip s later r.0.tr3.1 r.0.tr7 r.1 in
    let fits : Fits b s = record { right = end; top = omega (arith, up, ad.0.adds); fill = omega (arith, r.0.tr3.3, r.0.tr6.0, ad.0.adds, ok.fill); narrow = omega arith; within = r.0.tr4.3; high = omega arith; ends = omega arith; widest = omega (arith, ad.0.strip_w, end, r.0.tr6.0, ad.0.adds); least = λ _. omega arith; tall = λ _. omega arith } in (
      record { follows = ad.0; inherits = r.0.tr3.3; fits = fits; wide = new_wide b NewStrip s later r.0.tr3.1 r.0.tr7 r.1; own = ad.0.adds.0; plate_is = same_plate },
      sound b NewStrip s later r.1 ad.1 (λ _. ad.0.adds.1) fits ad.0.adds.0 ad.0.plate,
    )
sound b m t (spot NewBand s ∷ later) r ad alone ok own was =
    let same_plate : s.plate ≡ t.plate = omega (arith, ad.0.plate, ad.0.counts, was) in
    let end : s.e + s.cell_w ≤ s.b = right_end b NewBand s later r.1 ad.1 (λ e. omega (arith, r.0.tr6.1 e)) in
    let up : s.c + (s.h + s.draw.lift * b.params.waste) ≤ s.d = new_top b NewBand s later r.0.tr3.1 r.0.tr7 r.1 in
    let fits : Fits b s = record { right = end; top = omega (arith, up, ad.0.adds); fill = omega (arith, r.0.tr3.3, r.0.tr6.0, ad.0.adds, ok.fill); narrow = omega (arith, r.0.tr3.3, ok.narrow); within = within_same b t.b s.b t.plate s.plate r.0.tr3.3.1 same_plate ok.within; high = omega (arith, r.0.tr3.3, r.0.tr5, ok.high); ends = omega (arith, r.0.tr3.3, r.0.tr5, r.0.tr6, ok.ends); widest = omega (arith, r.0.tr3.3, ad.0.strip_w, ok.widest, end, r.0.tr6.0, ad.0.adds, ok.fill); least = λ h. omega (arith, r.0.tr3.3, ok.least (omega (arith, h, ad.0.counts))); tall = λ _. omega arith } in (
      record { follows = ad.0; inherits = r.0.tr3.3; fits = fits; wide = new_wide b NewBand s later r.0.tr3.1 r.0.tr7 r.1; own = ad.0.adds.0; plate_is = same_plate },
      sound b NewBand s later r.1 ad.1 (λ _. ad.0.adds.1) fits ad.0.adds.0 ad.0.plate,
    )
sound b m t (spot NewCell s ∷ later) r ad alone ok own was =
    let same_plate : s.plate ≡ t.plate = omega (arith, ad.0.plate, ad.0.counts, was) in
    let end : s.e + s.cell_w ≤ s.b = right_end b NewCell s later r.1 ad.1 (λ e. omega (arith, r.0.tr6.1 e)) in
    let up : s.c + (s.h + s.draw.lift * b.params.waste) ≤ s.d = new_top b NewCell s later r.0.tr3.1 r.0.tr7 r.1 in
    let fits : Fits b s = record { right = end; top = omega (arith, up, ad.0.adds); fill = omega (arith, r.0.tr3.3, r.0.tr6.0, ad.0.adds, ok.fill); narrow = omega (arith, r.0.tr3.3, ok.narrow); within = within_same b t.b s.b t.plate s.plate r.0.tr3.3.1 same_plate ok.within; high = omega (arith, r.0.tr3.3, r.0.tr5, ok.high); ends = omega (arith, r.0.tr3.3, r.0.tr5, r.0.tr6, ok.ends); widest = omega (arith, r.0.tr3.3, ad.0.strip_w, ok.widest, end, r.0.tr6.0, ad.0.adds, ok.fill); least = λ h. omega (arith, r.0.tr3.3, ok.least (omega (arith, h, ad.0.counts))); tall = λ h. omega (arith, r.0.tr3.3, ok.tall (omega (arith, h, ad.0.counts))) } in (
      record { follows = ad.0; inherits = r.0.tr3.3; fits = fits; wide = new_wide b NewCell s later r.0.tr3.1 r.0.tr7 r.1; own = ad.0.adds.0; plate_is = same_plate },
      sound b NewCell s later r.1 ad.1 (λ _. ad.0.adds.1) fits ad.0.adds.0 ad.0.plate,
    )
sound b m t (spot Over s ∷ later) r ad alone ok own was =
    let same_plate : s.plate ≡ t.plate = omega (arith, ad.0.plate, ad.0.counts, was) in
    let up : s.c + s.cell_h ≤ s.d =
    omega (arith, r.0.tr7, r.0.tr3.3, ad.0.adds, alone r.0.tr7.3, no_lift t.draw.lift b.params.waste r.0.tr7.2, no_lift s.draw.lift b.params.waste r.0.tr7.0) in
    let fits : Fits b s = record {
      right = omega (arith, r.0.tr3.3, ad.0.adds, ok.right);
      top = up;
      fill = omega (arith, r.0.tr3.3, ad.0.adds, ok.fill);
      narrow = omega (arith, r.0.tr3.3, ok.narrow);
      within = within_same b t.b s.b t.plate s.plate r.0.tr3.3.1 same_plate ok.within;
      high = omega (arith, r.0.tr3.3, ok.high);
      ends = omega (arith, r.0.tr3.3, ok.ends);
      widest = omega (arith, r.0.tr3.3, ad.0.strip_w, ok.widest, ad.0.adds, ok.fill, ok.right);
      least = λ h. omega (arith, r.0.tr3.3, ok.least (omega (arith, h, ad.0.counts)));
      tall = λ h. omega (arith, r.0.tr3.3, ok.tall (omega (arith, h, ad.0.counts)));
    } in
    let same : s.cell_w ≡ s.w = omega (arith, ad.0.adds.0, own, r.0.tr7.1) in (
      record { follows = ad.0; inherits = r.0.tr3.3; fits = fits; wide = λ h. absurd (omega (arith, h, r.0.tr7.0)); own = same; plate_is = same_plate },
      sound b Over s later r.1 ad.1 (λ no. absurd (no refl)) fits same ad.0.plate,
    )

-- the first draw, and each later one by its kind
follows_first : (b : Problem) (t : Place) (d : Draw) → t.plates ≡ 0 → Follows b.params.waste NewPlate t (place_of b [] t d)
follows_first b t d e = record { adds = (refl, refl, refl); counts = counts d.kind; plate = refl; area = refl; band_area = refl; strip_w = refl }
  where
    counts : (kind : ℕ) → (plates_after kind t.plates ≡ t.plates + 1) ⊎ (plates_after kind t.plates ≡ 0)
    counts zero = inl refl
    counts (suc n) = inr e

follows_later : (b : Problem) (x : Draw) (before : List Draw) (t : Place) (kind : ℕ) (d : Draw) → Follows b.params.waste (level_of kind) t (place_of b (x ∷ before) t (record d { kind = kind }))
follows_later b x before t zero d = record { adds = (refl, refl, refl); counts = inl refl; plate = refl; area = refl; band_area = refl; strip_w = refl }
follows_later b x before t (suc zero) d = record { adds = (refl, refl, refl); counts = refl; plate = refl; area = refl; band_area = refl; strip_w = refl }
follows_later b x before t (suc (suc zero)) d = record { adds = (refl, refl, refl); counts = refl; plate = refl; area = refl; band_area = refl; strip_w = refl }
follows_later b x before t (suc (suc (suc zero))) d = record { adds = (refl, refl, refl); counts = refl; plate = refl; area = refl; band_area = refl; strip_w = refl }
follows_later b x before t (suc (suc (suc (suc n)))) d = record { adds = (refl, refl, refl); counts = refl; plate = refl; area = refl; band_area = refl; strip_w = refl }

follows_marks : (b : Problem) (x : Draw) (before : List Draw) (m : Level) (t : Cut) (ss : List Step) →
    EachStep (λ _ t l s _. Follows b.params.waste l t.place s.place) m t (attach (marks b (x ∷ before) t.place (map draw_of ss)) ss)
follows_marks b x before m t [] = tt
follows_marks b x before m t (s ∷ ss) = (
  follows_later b x before t.place s.kind (draw_of s),
  follows_marks b (draw_of s) (x ∷ before) (level_of s.kind) (cut (place_of b (x ∷ before) t.place (draw_of s)) s) ss,
)

pub follows_spots : (b : Problem) (ss : List Step) → EachStep (λ _ t l s _. Follows b.params.waste l t.place s.place) NewPlate no_cut (spots b ss)
follows_spots b [] = tt
follows_spots b (s ∷ ss) =
    (follows_first b no_place (draw_of s) refl, follows_marks b (draw_of s) [] NewPlate (cut (place_of b [] no_place (draw_of s)) s) ss)

pub no_fits : (b : Problem) → Fits b no_cut
no_fits b = record {
  right = omega arith;
  top = omega arith;
  fill = omega arith;
  narrow = omega arith;
  within = omega arith;
  high = omega arith;
  ends = omega arith;
  widest = omega arith;
  least = λ h. absurd (omega (arith, h));
  tall = λ h. absurd (omega (arith, h));
}

-- a trace that keeps the rules on sizes is sound at each step
pub sized_sound : (b : Problem) (ss : List Step) → EachStep (Sizes b) NewPlate no_cut (spots b ss) → EachStep (λ _ t l s _. Sound b l t s) NewPlate no_cut (spots b ss)
sized_sound b ss m = sound b NewPlate no_cut (spots b ss) m (follows_spots b ss) (λ _. omega arith) (no_fits b) refl refl

pub meets_sound : (b : Problem) (ss : List Step) → Meets b ss → EachStep (λ _ t l s _. Sound b l t s) NewPlate no_cut (spots b ss)
meets_sound b ss m = sized_sound b ss (sizes_of b NewPlate no_cut (spots b ss) m)
