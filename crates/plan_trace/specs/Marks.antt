-- What the steps of a trace draw and begin: level, item and sides of each step, from its discrete numbers and those before it.
use Rattle.std.specs.Prelude.{ℕ, zero, suc, ◌+◌, ◌-◌, ◌*◌, ◌==◌, List, [], ◌∷◌, Option, Some, None, map, cond, max}
use Rattle.glass_base.specs.declared.item.Item.{Item}
use Rattle.glass_base.specs.Problem.{Problem, item_at}
use Rattle.cut_model.specs.declared.steps.Step.{Step}
use Rattle.cut_model.specs.Steps.{plates_after}
pub use Rattle.plan_trace.specs.declared.level.Level.{Level}
pub use Rattle.plan_trace.specs.declared.level.Level.TheVariants.{NewPlate, NewStrip, NewBand, NewCell, Over}

-- what a step of this kind begins
abbrev pub level_of : ℕ → Level
level_of zero = NewPlate
level_of (suc zero) = NewStrip
level_of (suc (suc zero)) = NewBand
level_of (suc (suc (suc zero))) = NewCell
level_of _ = Over

-- the discrete numbers of a step
pub record Draw : Type 0 where
  pub stack : ℕ
  pub turn : ℕ
  pub kind : ℕ
  pub lift : ℕ

abbrev pub draw_of : Step → Draw
draw_of s = record { stack = s.stack; turn = s.turn; kind = s.kind; lift = s.lift }

-- what the discrete numbers of a step and of the steps before it determine
pub record Place : Type 0 where
  pub draw : Draw
  pub item : Option Item
  -- the plates begun so far, and the number of the step's plate
  pub plates : ℕ
  pub plate : ℕ
  -- the sides of the item as it lies
  pub w : ℕ
  pub h : ℕ
  -- the width of the cell; the heights of its items so far, with the least waste for each that is lifted
  pub cell_w : ℕ
  pub cell_h : ℕ
  -- the widths of the band's cells so far; the greatest such width among the strip's bands
  pub band_w : ℕ
  pub strip_w : ℕ
  -- the areas of the items of the band so far, and of all steps so far
  pub band_area : ℕ
  pub area : ℕ

-- the first step begins everything, whatever its kind
abbrev pub begins : List Draw → ℕ → Level
begins [] kind = NewPlate
begins (_ ∷ _) kind = level_of kind

-- how many items of a stack were drawn
abbrev pub drawn : List Draw → ℕ → ℕ
drawn [] stack = 0
drawn (d ∷ before) stack = cond (d.stack == stack) (suc (drawn before stack)) (drawn before stack)

abbrev pub item_width : ℕ → Option Item → ℕ
item_width _ None = 0
item_width zero (Some i) = i.length
item_width _ (Some i) = i.width

abbrev pub item_height : ℕ → Option Item → ℕ
item_height _ None = 0
item_height zero (Some i) = i.width
item_height _ (Some i) = i.length

-- the width of a step's cell is that of the item that begins it
abbrev pub cell_width : Level → ℕ → ℕ → ℕ
cell_width Over before w = before
cell_width _ before w = w

abbrev pub cell_height : Level → ℕ → ℕ → ℕ
cell_height Over before own = before + own
cell_height _ before own = own

abbrev pub band_width : Level → ℕ → ℕ → ℕ
band_width Over before w = before
band_width NewCell before w = before + w
band_width _ before w = w

abbrev pub strip_width : Level → ℕ → ℕ → ℕ
strip_width NewPlate before band = band
strip_width NewStrip before band = band
strip_width _ before band = max before band

abbrev pub band_total : Level → ℕ → ℕ → ℕ
band_total NewCell before own = before + own
band_total Over before own = before + own
band_total _ before own = own

-- the place of the next draw; `before` has the earlier draws, the newest first, and `t` is the place of the first of these
abbrev pub place_of : Problem → List Draw → Place → Draw → Place
place_of b before t d =
    let l : Level = begins before d.kind in
    let i : Option Item = item_at b d.stack (drawn before d.stack) in
    let w : ℕ = item_width d.turn i in
    let h : ℕ = item_height d.turn i in
    let band_w : ℕ = band_width l t.band_w w in
    record {
      draw = d;
      item = i;
      plates = plates_after d.kind t.plates;
      plate = plates_after d.kind t.plates - 1;
      w = w;
      h = h;
      cell_w = cell_width l t.cell_w w;
      cell_h = cell_height l t.cell_h (h + d.lift * b.params.waste);
      band_w = band_w;
      strip_w = strip_width l t.strip_w band_w;
      band_area = band_total l t.band_area (w * h);
      area = t.area + w * h;
    }

-- a step's level and place
pub data Mark : Type 0 where
  mark : Level → Place → Mark

abbrev pub marks : Problem → List Draw → Place → List Draw → List Mark
marks b before t [] = []
marks b before t (d ∷ ds) = mark (begins before d.kind) (place_of b before t d) ∷ marks b (d ∷ before) (place_of b before t d) ds

-- stands before the first step; no rule reads it there
abbrev pub no_place : Place
no_place = record {
  draw = record { stack = 0; turn = 0; kind = 0; lift = 0 };
  item = None;
  plates = 0;
  plate = 0;
  w = 0;
  h = 0;
  cell_w = 0;
  cell_h = 0;
  band_w = 0;
  strip_w = 0;
  band_area = 0;
  area = 0;
}

-- a placed step with the sides of its strip, band and cell
pub record Cut : Type 0 where
  pub place : Place
  pub open place use *
  pub a : ℕ
  pub b : ℕ
  pub c : ℕ
  pub d : ℕ
  pub e : ℕ

abbrev pub cut : Place → Step → Cut
cut p s = record { place = p; a = s.a; b = s.b; c = s.c; d = s.d; e = s.e }

abbrev pub no_cut : Cut
no_cut = record { place = no_place; a = 0; b = 0; c = 0; d = 0; e = 0 }

-- a step's level and cuts
pub data Spot : Type 0 where
  spot : Level → Cut → Spot

abbrev pub attach : List Mark → List Step → List Spot
attach [] _ = []
attach (_ ∷ _) [] = []
attach (mark l p ∷ ms) (s ∷ ss) = spot l (cut p s) ∷ attach ms ss

-- the steps of a trace, each with its level and place
abbrev pub spots : Problem → List Step → List Spot
spots b steps = attach (marks b [] no_place (map draw_of steps)) steps

abbrev pub levels : List Spot → List Level
levels [] = []
levels (spot l _ ∷ later) = l ∷ levels later
