-- What lies behind the cell of a step, read off the later steps.
use Rattle.std.proofs.Common.{◌≡◌, ℕ, zero, suc, ◌+◌, ◌*◌, ◌-◌, ◌<◌, ◌≤◌, ◌⊎◌, inl, inr, List, ◌∷◌, length, IsTrue, true, refl, sym, ◌∙◌, subst, arith}
use Rattle.glass_base.specs.declared.params.Params.{Params}
use Rattle.glass_base.specs.Problem.{Problem}
use Rattle.defect_map.specs.Queries.{HitsNone}
use Rattle.plan_trace.specs.declared.level.Level.{Level}
use Rattle.plan_trace.specs.declared.level.Level.TheVariants.{NewPlate, NewStrip, NewBand, NewCell, Over}
use Rattle.plan_trace.specs.Marks.{Spot, levels, Cut}
use Rattle.plan_trace.specs.TraceRules.{Gap, AloneFits, is_last_in_cell, bottom, TR8}
use Rattle.plan_trace.proofs.Ends.{Ends}
use Rattle.plan_trace.proofs.Inside.{Fits, Adds}
use Rattle.plan_trace.proofs.Known.{Known}
use Rattle.front_course.specs.Fronts.{Front, next}
use Rattle.front_course.specs.Cells.{Pick, pick_width, pick_height, IsThere, Cell, after_cell, cell_width, Stands, CanStand, after_cells, cells_width, AllStand}
use Rattle.front_course.specs.Cells.Cell.{alone, pair}
use Rattle.front_course.specs.Strips.{Band, after_bands, bands_height, AreBands}
use Rattle.front_course.specs.Places.{HasPlace, HasPlaces, CellPlaces, BandPlaces, IsClearLine}
use Rattle.front_course.specs.Courses.{Strip, AreStrips, Behind, after_strips, last_plate, last_right}
use Rattle.front_course.proofs.Gaps.{gap_then, gap_from, gap_same}

-- what is to hold of the front, the plate and the place on it where all strips end
abbrev pub Target : Type 1
Target = Front → ℕ → ℕ → Type 0

-- what follows the cells up to a front: more cells of a band from `low` to `top`, from `x` on; more bands of a strip from `left`
-- to `right`, above `top`; and more strips behind this one on its plate
pub record Rest (b : Problem) (G : Target) (f : Front) (low top x left right plate : ℕ) : Type 0 where
  pub cells : List Cell
  pub bands : List Band
  pub strips : List Strip
  pub stand : AllStand b (top - low) f cells
  pub fill : Gap b.params.waste (x + cells_width b f cells) right
  pub each : AreBands b (right - left) (after_cells f cells) bands
  pub tall : Gap b.params.waste (top + bands_height bands) b.params.height
  pub cell_places : CellPlaces b plate low top f x right cells
  pub band_places : BandPlaces b plate left right (after_cells f cells) top bands
  pub follow : AreStrips b (after_bands (after_cells f cells) bands) plate right strips
  pub goal : G (after_strips (after_bands (after_cells f cells) bands) strips) (last_plate plate strips) (last_right right strips)

-- behind the cell of a step
abbrev pub RestOf : Problem → Target → Front → Cut → Type 0
RestOf b G f s = Rest b G f s.c s.d (s.e + s.cell_w) s.a s.b s.plate

pub rest_at : (b : Problem) (G : Target) (f : Front) (low top x left right plate low' top' x' left' right' plate' : ℕ) →
    low' ≡ low → top' ≡ top → x' ≡ x → left' ≡ left → right' ≡ right → plate' ≡ plate → Rest b G f low top x left right plate → Rest b G f low' top' x' left' right' plate'
rest_at b G f low top x left right plate low' top' x' left' right' plate' e1 e2 e3 e4 e5 e6 r = rw (e1, e2, e3, e4, e5, e6) r

-- an item over the one of a step
pub record Paired (b : Problem) (G : Target) (f : Front) (s : Cut) : Type 0 where
  pub pick : Pick
  pub there : IsThere b f pick
  pub same : pick_width b f pick ≡ s.w
  pub fills : s.h + pick_height b f pick ≡ s.d - s.c
  pub under : HasPlace b s.plate s.e s.c (s.c + s.h) s.w s.h
  pub above : HasPlace b s.plate s.e (s.c + s.h) s.d (pick_width b f pick) (pick_height b f pick)
  pub rest : RestOf b G (next f pick.stack) s

-- the item of a step has a place in its band
abbrev pub OwnPlace : Problem → Cut → Type 0
OwnPlace b s = HasPlace b s.plate s.e s.c s.d s.w s.h

-- the cell of a step is finished, and what follows it is known
abbrev pub Finished : Problem → Target → Level → Front → Cut → Type 0
Finished b G Over f s = RestOf b G f s
Finished b G _ f s = (Stands b.params.waste s.w s.h (s.d - s.c) × OwnPlace b s × RestOf b G f s) ⊎ Paired b G f s

-- the item of a step stands alone, where no step follows in its cell
abbrev pub AloneOf : Problem → Level → Cut → List Spot → Type 0
AloneOf b Over s later = Unit {0}
AloneOf b _ s later = IsTrue (is_last_in_cell true (levels later)) → Stands b.params.waste s.w s.h (s.d - s.c)

-- where the item of a step lies, which begins its cell
abbrev pub PlaceOf : Problem → Level → Cut → Type 0
PlaceOf b Over s = Unit {0}
PlaceOf b _ s = OwnPlace b s × (s.draw.lift ≡ 0 → HasPlace b s.plate s.e s.c (s.c + s.h) s.w s.h)

-- what a step says of itself and of the later ones
pub record Own (b : Problem) (l : Level) (s : Cut) (later : List Spot) : Type 0 where
  pub by_itself : AloneOf b l s later
  pub place : PlaceOf b l s
  pub ends : Ends b s later
  pub fits : Fits b s
  pub plates : s.plates ≡ s.plate + 1

alone_stands : (p : Params) (lift : ℕ) (s : Cut) → AloneFits p lift s → Stands p.waste s.w s.h (s.d - s.c)
alone_stands p zero s (inl e) = inl (omega (arith, e))
alone_stands p zero s (inr e) = inr (omega (arith, e), e.1)
alone_stands p (suc n) s e = inr (omega (arith, e), e.1)

-- an item that stands on its band's lower side, or hangs from the upper one
placed : (b : Problem) (s : Cut) (lift : ℕ) → s.c + s.h ≤ s.d → HitsNone b.defects s.plate s.e (bottom NewPlate lift s.c s.d s.h) (s.e + s.w) (bottom NewPlate lift s.c s.d s.h + s.h) →
    OwnPlace b s × (lift ≡ 0 → HasPlace b s.plate s.e s.c (s.c + s.h) s.w s.h)
placed b s zero within hits = ((s.c, omega arith, within, hits), λ _. (s.c, omega arith, omega arith, hits))
placed b s (suc n) within hits = ((s.d - s.h, omega (arith, within), omega (arith, within), hits), λ none. absurd (omega (arith, none)))

pub own_of : (b : Problem) (m : Level) (t : Cut) (l : Level) (s : Cut) (later : List Spot) → Known b m t l s later → Own b l s later
own_of b m t l s later k = record {
  by_itself = itself l k;
  place = at l k.sound.follows.adds k.rules.tr8;
  ends = k.ends;
  fits = k.sound.fits;
  plates = omega (arith, k.sound.follows.plate, k.rules.tr1.0);
}
  where
    itself : (l : Level) → Known b m t l s later → AloneOf b l s later
    itself NewPlate k = λ last. alone_stands b.params s.draw.lift s (k.rules.tr7 last)
    itself NewStrip k = λ last. alone_stands b.params s.draw.lift s (k.rules.tr7 last)
    itself NewBand k = λ last. alone_stands b.params s.draw.lift s (k.rules.tr7 last)
    itself NewCell k = λ last. alone_stands b.params s.draw.lift s (k.rules.tr7 last)
    itself Over k = tt

    room : s.cell_h ≡ s.h + s.draw.lift * b.params.waste → s.c + s.h ≤ s.d
    room own = omega (arith, own, k.sound.fits.top)

    at : (l : Level) → Adds b.params.waste l t.place s.place → TR8 b.defects l s → PlaceOf b l s
    at NewPlate adds hits = placed b s s.draw.lift (room adds.1) hits
    at NewStrip adds hits = placed b s s.draw.lift (room adds.1) hits
    at NewBand adds hits = placed b s s.draw.lift (room adds.1) hits
    at NewCell adds hits = placed b s s.draw.lift (room adds.1) hits
    at Over adds hits = tt

-- a step with no other behind it in its cell
pub finish : (b : Problem) (G : Target) (m : Level) (f : Front) (t : Cut) (later : List Spot) → AloneOf b m t later → PlaceOf b m t → IsTrue (is_last_in_cell true (levels later)) → RestOf b G f t → Finished b G m f t
finish b G Over f t later own place last rest = rest
finish b G NewPlate f t later own place last rest = inl (own last, place.0, rest)
finish b G NewStrip f t later own place last rest = inl (own last, place.0, rest)
finish b G NewBand f t later own place last rest = inl (own last, place.0, rest)
finish b G NewCell f t later own place last rest = inl (own last, place.0, rest)

-- the item of a step is this one
pub record IsPick (b : Problem) (f : Front) (p : Pick) (s : Cut) : Type 0 where
  pub there : IsThere b f p
  pub w : s.w ≡ pick_width b f p
  pub h : s.h ≡ pick_height b f p

-- the cell that a step begins, and what follows it
pub record Begun (b : Problem) (G : Target) (f : Front) (s : Cut) : Type 0 where
  pub cell : Cell
  pub can : CanStand b (s.d - s.c) f cell
  pub places : HasPlaces b s.plate s.e s.c s.d f cell
  pub width : cell_width b f cell ≡ s.w
  pub rest : RestOf b G (after_cell f cell) s

abbrev Open : Problem → Target → Front → Cut → Type 0
Open b G f s = (Stands b.params.waste s.w s.h (s.d - s.c) × OwnPlace b s × RestOf b G f s) ⊎ Paired b G f s

stands_as : (waste w h high w' h' : ℕ) → w ≡ w' → h ≡ h' → Stands waste w h high → Stands waste w' h' high
stands_as waste w h high w' h' e1 e2 (inl e) = inl (omega (arith, e1, e2, e))
stands_as waste w h high w' h' e1 e2 (inr e) = inr (omega (arith, e2, e.0), omega (arith, e1, e.1))

place_as : (b : Problem) (plate left low top w h top' w' h' : ℕ) → top' ≡ top → w' ≡ w → h' ≡ h → HasPlace b plate left low top w h → HasPlace b plate left low top' w' h'
place_as b plate left low top w h top' w' h' e1 e2 e3 p = rw (e1, e2, e3) p

place_on : (b : Problem) (plate left low top w h low' : ℕ) → low' ≡ low → HasPlace b plate left low top w h → HasPlace b plate left low' top w h
place_on b plate left low top w h low' e p = rw e p

pub begun : (b : Problem) (G : Target) (f : Front) (p : Pick) (s : Cut) → IsPick b f p s → Open b G (next f p.stack) s → Begun b G f s
begun b G f p s is (inl o) = record {
  cell = alone p;
  can = (is.there, stands_as b.params.waste s.w s.h (s.d - s.c) (pick_width b f p) (pick_height b f p) is.w is.h o.0);
  places = place_as b s.plate s.e s.c s.d s.w s.h s.d (pick_width b f p) (pick_height b f p) refl (sym is.w) (sym is.h) o.1;
  width = sym is.w;
  rest = o.2;
}
begun b G f p s is (inr o) = record {
  cell = pair p o.pick;
  can = (is.there, o.there, o.same ∙ is.w, omega (arith, is.h, o.fills));
  places = (
    place_as b s.plate s.e s.c (s.c + s.h) s.w s.h (s.c + pick_height b f p) (pick_width b f p) (pick_height b f p) (omega (arith, is.h)) (sym is.w) (sym is.h) o.under,
    place_on b s.plate s.e (s.c + s.h) s.d (pick_width b (next f p.stack) o.pick) (pick_height b (next f p.stack) o.pick) (s.c + pick_height b f p) (omega (arith, is.h)) o.above,
  );
  width = sym is.w;
  rest = o.rest;
}

-- bands of a strip from `bottom` on, the first of which begins here, and what follows them
pub record Bands (b : Problem) (G : Target) (f : Front) (bottom left right plate : ℕ) : Type 0 where
  pub bands : List Band
  pub strips : List Strip
  pub some : 1 ≤ length bands
  pub each : AreBands b (right - left) f bands
  pub tall : Gap b.params.waste (bottom + bands_height bands) b.params.height
  pub places : (from : ℕ) → Gap b.params.waste from bottom → BandPlaces b plate left right f from bands
  pub follow : AreStrips b (after_bands f bands) plate right strips
  pub goal : G (after_strips (after_bands f bands) strips) (last_plate plate strips) (last_right right strips)

-- cells, and the bands above them, of a band whose upper side is told in another way
band_at : (b : Problem) (plate low left right from : ℕ) (f : Front) (high : ℕ) (cells : List Cell) (bands : List Band) (top : ℕ) → low + high ≡ top →
    CellPlaces b plate low top f left right cells → BandPlaces b plate left right (after_cells f cells) top bands → Gap b.params.waste from low → BandPlaces b plate left right f from (record { high = high; cells = cells } ∷ bands)
band_at b plate low left right from f high cells bands top same here above gap =
    (low, gap, rw same here, rw same above)

pub banded : (b : Problem) (G : Target) (f : Front) (s : Cut) → Fits b s → s.cell_w ≡ s.w → Gap b.params.waste s.a s.e → s.c + b.params.min2 ≤ s.d → Begun b G f s →
    Bands b G f s.c s.a s.b s.plate
banded b G f s fits own gap tall g =
    let w : ℕ = cell_width b f g.cell in
    let rest : Rest b G (after_cell f g.cell) s.c s.d (s.e + w) s.a s.b s.plate =
    rest_at b G (after_cell f g.cell) s.c s.d (s.e + s.cell_w) s.a s.b s.plate s.c s.d (s.e + w) s.a s.b s.plate refl refl (omega (arith, g.width, own)) refl refl refl g.rest in
    let filled : Gap b.params.waste (s.e + (w + cells_width b (after_cell f g.cell) rest.cells)) s.b = gap_same b.params.waste (s.e + w + cells_width b (after_cell f g.cell) rest.cells) (s.e + (w + cells_width b (after_cell f g.cell) rest.cells)) s.b (omega arith) rest.fill in
    record {
      bands = record { high = s.d - s.c; cells = g.cell ∷ rest.cells } ∷ rest.bands;
      strips = rest.strips;
      some = omega arith;
      each = (
        record {
          some = omega arith;
          tall = omega (arith, tall);
          stand = (g.can, rest.stand);
          fill = gap_from b.params.waste s.a (w + cells_width b (after_cell f g.cell) rest.cells) s.b (gap_then b.params.waste s.a s.e (w + cells_width b (after_cell f g.cell) rest.cells) s.b gap filled);
        },
        rest.each,
      );
      tall = gap_same b.params.waste (s.d + bands_height rest.bands) (s.c + ((s.d - s.c) + bands_height rest.bands)) b.params.height (omega (arith, fits.ends)) rest.tall;
      places = λ from below. band_at b s.plate s.c s.a s.b from f (s.d - s.c) (g.cell ∷ rest.cells) rest.bands s.d (omega (arith, fits.ends)) (s.e, gap, g.places, rest.cell_places) rest.band_places below;
      follow = rest.follow;
      goal = rest.goal;
    }

-- strips behind what ends at `from` on a plate, the first of which begins here
pub record Strips (b : Problem) (G : Target) (f : Front) (plate from : ℕ) : Type 0 where
  pub strips : List Strip
  pub follow : AreStrips b f plate from strips
  pub goal : G (after_strips f strips) (last_plate plate strips) (last_right from strips)

-- the strip of a step, with these bands
abbrev pub strip_of : Cut → List Band → Strip
strip_of s bands = record { plate = s.plate; width = s.b - s.a; right = s.b; bands = bands }

strip_places : (b : Problem) (s : Cut) (f : Front) (bands : List Band) → s.a ≤ s.b → BandPlaces b s.plate s.a s.b f 0 bands → BandPlaces b s.plate (s.b - (s.b - s.a)) s.b f 0 bands
strip_places b s f bands sides places = subst (λ n. BandPlaces b s.plate n s.b f 0 bands) (omega (arith, sides)) places

line_at : (b : Problem) (plate x x' : ℕ) → x' ≡ x → IsClearLine b plate x → IsClearLine b plate x'
line_at b plate x x' e line = rw e line

-- the lines of a step's strip
pub lines_of : (b : Problem) (m : Level) (t : Cut) (l : Level) (s : Cut) (later : List Spot) → Known b m t l s later → IsClearLine b s.plate s.a × IsClearLine b s.plate s.b
lines_of b m t l s later k = (λ inside within. k.rules.tr9.at_a inside, λ inside within. k.rules.tr9.at_b within)

pub stripped : (b : Problem) (G : Target) (f : Front) (plate from : ℕ) (s : Cut) → Fits b s → s.plate < b.params.plates → s.a + b.params.min1 ≤ s.b → Gap b.params.waste 0 s.c →
    ((bands : List Band) → Behind b plate from (strip_of s bands)) → IsClearLine b s.plate s.a → IsClearLine b s.plate s.b → Bands b G f s.c s.a s.b s.plate → Strips b G f plate from
stripped b G f plate from s fits few wide gap behind begin end g = record {
  strips = strip_of s g.bands ∷ g.strips;
  follow = (
    record {
      is_strip = record {
        some = g.some;
        wide = omega (arith, wide);
        narrow = omega (arith, fits.narrow);
        each = g.each;
        fill = gap_same b.params.waste (0 + bands_height g.bands) (bands_height g.bands) b.params.height (omega arith) (gap_then b.params.waste 0 s.c (bands_height g.bands) b.params.height gap g.tall);
      };
      behind = behind g.bands;
      within = fits.within;
      few = few;
      places = strip_places b s f g.bands fits.ends.0 (g.places 0 gap);
      begin = line_at b s.plate s.a (s.b - (s.b - s.a)) (omega (arith, fits.ends)) begin;
      end = end;
    },
    g.follow,
  );
  goal = g.goal;
}
