-- One more step before what is known of the later ones.
use Rattle.std.proofs.Common.{◌≡◌, ◌≢◌, ℕ, suc, ◌+◌, ◌-◌, ◌<◌, ◌≤◌, inl, inr, List, [], ◌∷◌, refl, sym, ◌∙◌, subst, arith}
use Rattle.glass_base.specs.Problem.{Problem}
use Rattle.plan_trace.specs.declared.level.Level.{Level}
use Rattle.plan_trace.specs.declared.level.Level.TheVariants.{NewPlate, NewStrip, NewBand, NewCell, Over}
use Rattle.plan_trace.specs.Marks.{Spot, spot, Cut}
use Rattle.plan_trace.specs.TraceRules.{Gap, TR8}
use Rattle.plan_trace.proofs.Known.{Known}
use Rattle.front_course.specs.Fronts.{Front, next}
use Rattle.front_course.specs.Cells.{Pick, pick_width, pick_height, Cell, after_cell, cell_width, CanStand, cells_width}
use Rattle.front_course.specs.Strips.{bands_height}
use Rattle.front_course.specs.Places.{HasPlace, HasPlaces}
use Rattle.front_course.proofs.Gaps.{gap_then, gap_same}
use Rattle.front_course.proofs.Behind.{Target, Rest, RestOf, rest_at, Paired, Finished, Own, finish, IsPick, Begun, begun, Bands, banded, Strips, stripped, lines_of}

-- the item that lies over the one of a step
place_over : (b : Problem) (f : Front) (p : Pick) (t s : Cut) → s.plate ≡ t.plate → s.e ≡ t.e → s.d ≡ t.d → s.d - s.h ≡ t.c + t.h → t.c + t.h + s.h ≡ t.d → IsPick b f p s → TR8 b.defects Over s →
    HasPlace b t.plate t.e (t.c + t.h) t.d (pick_width b f p) (pick_height b f p)
place_over b f p t s e1 e2 e3 e4 top is hits = rw (sym is.w, sym is.h, sym e1, sym e2, sym e4) (s.d - s.h, omega arith, omega (arith, top, e4), hits)

over : (b : Problem) (G : Target) (f : Front) (p : Pick) (m : Level) (t s : Cut) (later : List Spot) → Known b m t Over s later → IsPick b f p s → RestOf b G (next f p.stack) s → m ≢ Over →
    (t.draw.lift ≡ 0 → HasPlace b t.plate t.e t.c (t.c + t.h) t.w t.h) → Paired b G f t
over b G f p m t s later k is rest single under =
    let i = k.sound.inherits in
    record {
      pick = p;
      there = is.there;
      same = sym is.w ∙ k.rules.tr7.1;
      fills = omega (arith, is.h, k.rules.tr7.4, i.2, i.3);
      under = under k.rules.tr7.2;
      above = place_over b f p t s k.sound.plate_is i.4 i.3 (omega (arith, k.rules.tr7.4, i.2, i.3)) (omega (arith, k.rules.tr7.4, i.2, i.3)) is k.rules.tr8;
      rest = rest_at b G (next f p.stack) s.c s.d (s.e + s.cell_w) s.a s.b s.plate t.c t.d (t.e + t.cell_w) t.a t.b t.plate
          (sym i.2) (sym i.3) (omega (arith, i.4, k.sound.follows.adds.0)) (sym i.0) (sym i.1) (sym k.sound.plate_is) rest;
    }

-- what a step's cell is, in the band of the step before
cell_places : (b : Problem) (f : Front) (cell : Cell) (e : ℕ) (plate low top plate' low' top' : ℕ) → plate' ≡ plate → low' ≡ low → top' ≡ top → HasPlaces b plate e low top f cell → HasPlaces b plate' e low' top' f cell
cell_places b f cell e plate low top plate' low' top' e1 e2 e3 places = rw (e1, e2, e3) places

new_cell : (b : Problem) (G : Target) (f : Front) (m : Level) (t s : Cut) (later : List Spot) → Known b m t NewCell s later → Begun b G f s → RestOf b G f t
new_cell b G f m t s later k g =
    let i = k.sound.inherits in
    let w : ℕ = cell_width b f g.cell in
    let high : t.d - t.c ≡ s.d - s.c = omega (arith, i.2, i.3) in
    let rest : Rest b G (after_cell f g.cell) t.c t.d (s.e + w) t.a t.b t.plate =
    rest_at b G (after_cell f g.cell) s.c s.d (s.e + s.cell_w) s.a s.b s.plate t.c t.d (s.e + w) t.a t.b t.plate
    (sym i.2) (sym i.3) (omega (arith, g.width, k.sound.own)) (sym i.0) (sym i.1) (sym k.sound.plate_is) g.rest in
    let ws : ℕ = cells_width b (after_cell f g.cell) rest.cells in
    record {
      cells = g.cell ∷ rest.cells;
      bands = rest.bands;
      strips = rest.strips;
      stand = (subst (λ n. CanStand b n f g.cell) (sym high) g.can, rest.stand);
      fill = gap_then b.params.waste (t.e + t.cell_w) s.e (w + ws) t.b k.rules.tr6.0 (gap_same b.params.waste (s.e + w + ws) (s.e + (w + ws)) t.b (omega arith) rest.fill);
      each = rest.each;
      tall = rest.tall;
      cell_places = (s.e, k.rules.tr6.0, cell_places b f g.cell s.e s.plate s.c s.d t.plate t.c t.d (sym k.sound.plate_is) (sym i.2) (sym i.3) g.places, rest.cell_places);
      band_places = rest.band_places;
      follow = rest.follow;
      goal = rest.goal;
    }

-- the same bands, in a strip and on a plate that are told in another way
bands_at : (b : Problem) (G : Target) (f : Front) (bottom left right plate left' right' plate' : ℕ) → left' ≡ left → right' ≡ right → plate' ≡ plate → Bands b G f bottom left right plate → Bands b G f bottom left' right' plate'
bands_at b G f bottom left right plate left' right' plate' e1 e2 e3 bands = rw (e1, e2, e3) bands

new_band : (b : Problem) (G : Target) (f : Front) (m : Level) (t s : Cut) (later : List Spot) → Known b m t NewBand s later → Own b m t (spot NewBand s ∷ later) → Begun b G f s → RestOf b G f t
new_band b G f m t s later k own g =
    let i = k.sound.inherits in
    let here : Bands b G f s.c t.a t.b t.plate =
    bands_at b G f s.c s.a s.b s.plate t.a t.b t.plate (sym i.0) (sym i.1) (sym k.sound.plate_is) (banded b G f s k.sound.fits k.sound.own k.rules.tr6.0 k.rules.tr5.1 g) in
    record {
      cells = [];
      bands = here.bands;
      strips = here.strips;
      stand = tt;
      fill = gap_same b.params.waste (t.e + t.cell_w) (t.e + t.cell_w + 0) t.b (omega arith) (own.ends.cell refl);
      each = here.each;
      tall = gap_then b.params.waste t.d s.c (bands_height here.bands) b.params.height k.rules.tr5.0 here.tall;
      cell_places = own.ends.cell refl;
      band_places = here.places t.d k.rules.tr5.0;
      follow = here.follow;
      goal = here.goal;
    }

-- a strip ends behind a step
pub strip_ends : (b : Problem) (G : Target) (f : Front) (t : Cut) → Gap b.params.waste (t.e + t.cell_w) t.b → Gap b.params.waste t.d b.params.height → Strips b G f t.plate t.b → RestOf b G f t
strip_ends b G f t cell band strips = record {
  cells = [];
  bands = [];
  strips = strips.strips;
  stand = tt;
  fill = gap_same b.params.waste (t.e + t.cell_w) (t.e + t.cell_w + 0) t.b (omega arith) cell;
  each = tt;
  tall = gap_same b.params.waste t.d (t.d + 0) b.params.height (omega arith) band;
  cell_places = cell;
  band_places = band;
  follow = strips.follow;
  goal = strips.goal;
}

-- a gap before a strip, with its width on both sides
pub wide_gap : (waste from : ℕ) (s : Cut) → s.a ≤ s.b → Gap waste from s.a → Gap waste (from + (s.b - s.a)) s.b
wide_gap waste from s fits (inl e) = inl (omega (arith, fits, e))
wide_gap waste from s fits (inr e) = inr (omega (arith, fits, e))

-- the same at the left side of a plate
own_gap : (waste : ℕ) (s : Cut) → s.a ≤ s.b → Gap waste 0 s.a → Gap waste (s.b - s.a) s.b
own_gap waste s fits (inl e) = inl (omega (arith, fits, e))
own_gap waste s fits (inr e) = inr (omega (arith, fits, e))

-- the strip of a step is on one of the plates
pub few_plates : (b : Problem) (m : Level) (t : Cut) (l : Level) (s : Cut) (later : List Spot) → Known b m t l s later → s.plate < b.params.plates
few_plates b m t l s later k = omega (arith, k.sound.follows.plate, k.rules.tr1.0, k.rules.tr1.1)

new_strip : (b : Problem) (G : Target) (f : Front) (m : Level) (t s : Cut) (later : List Spot) → Known b m t NewStrip s later → Own b m t (spot NewStrip s ∷ later) → Begun b G f s → RestOf b G f t
new_strip b G f m t s later k own g =
    strip_ends b G f t (own.ends.cell refl) (own.ends.band refl)
    (stripped b G f t.plate t.b s k.sound.fits (few_plates b m t NewStrip s later k) k.rules.tr4.1 k.rules.tr5.0
    (λ bands. inl (k.sound.plate_is, wide_gap b.params.waste t.b s k.sound.fits.ends.0 k.rules.tr4.0)) (lines_of b m t NewStrip s later k).0 (lines_of b m t NewStrip s later k).1 (banded b G f s k.sound.fits k.sound.own k.rules.tr6.0 k.rules.tr5.1 g))

new_plate : (b : Problem) (G : Target) (f : Front) (m : Level) (t s : Cut) (later : List Spot) → Known b m t NewPlate s later → Own b m t (spot NewPlate s ∷ later) → Begun b G f s → RestOf b G f t
new_plate b G f m t s later k own g =
    let next_plate : s.plate ≡ suc t.plate = omega (arith, k.sound.plate_is, own.plates) in
    strip_ends b G f t (own.ends.cell refl) (own.ends.band refl)
    (stripped b G f t.plate t.b s k.sound.fits (few_plates b m t NewPlate s later k) k.rules.tr4.1 k.rules.tr5.0
    (λ bands. inr (next_plate, own.ends.strip refl, own_gap b.params.waste s k.sound.fits.ends.0 k.rules.tr4.0)) (lines_of b m t NewPlate s later k).0 (lines_of b m t NewPlate s later k).1 (banded b G f s k.sound.fits k.sound.own k.rules.tr6.0 k.rules.tr5.1 g))

pub extend : (b : Problem) (G : Target) (f : Front) (p : Pick) (m : Level) (t : Cut) (l : Level) (s : Cut) (later : List Spot) → Known b m t l s later → Own b m t (spot l s ∷ later) → IsPick b f p s →
    Finished b G l (next f p.stack) s → Finished b G m f t
extend b G f p m t NewPlate s later k own is done = finish b G m f t (spot NewPlate s ∷ later) own.by_itself own.place refl (new_plate b G f m t s later k own (begun b G f p s is done))
extend b G f p m t NewStrip s later k own is done = finish b G m f t (spot NewStrip s ∷ later) own.by_itself own.place refl (new_strip b G f m t s later k own (begun b G f p s is done))
extend b G f p m t NewBand s later k own is done = finish b G m f t (spot NewBand s ∷ later) own.by_itself own.place refl (new_band b G f m t s later k own (begun b G f p s is done))
extend b G f p m t NewCell s later k own is done = finish b G m f t (spot NewCell s ∷ later) own.by_itself own.place refl (new_cell b G f m t s later k (begun b G f p s is done))
extend b G f p Over t Over s later k own is done = absurd (k.rules.tr7.3 refl)
extend b G f p NewPlate t Over s later k own is done = inr (over b G f p NewPlate t s later k is done k.rules.tr7.3 own.place.1)
extend b G f p NewStrip t Over s later k own is done = inr (over b G f p NewStrip t s later k is done k.rules.tr7.3 own.place.1)
extend b G f p NewBand t Over s later k own is done = inr (over b G f p NewBand t s later k is done k.rules.tr7.3 own.place.1)
extend b G f p NewCell t Over s later k own is done = inr (over b G f p NewCell t s later k is done k.rules.tr7.3 own.place.1)
