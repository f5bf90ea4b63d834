-- A step as code carries it from one to the next: what the rules read of it.
use Rattle.std.specs.Prelude.{◌≡◌, ℕ, ◌+◌, ◌-◌, ◌<◌, ◌≤◌, List, [], ◌∷◌, Option, None, map}
use Rattle.glass_base.specs.declared.params.Params.{Params}
use Rattle.glass_base.specs.declared.item.Item.{Item}
use Rattle.glass_base.specs.declared.item.Defect.{Defect}
use Rattle.glass_base.specs.Plates.{Width}
use Rattle.glass_base.specs.Problem.{Problem, item_at}
use Rattle.cut_model.specs.declared.steps.Step.{Step}
use Rattle.cut_model.specs.Steps.{plates_after}
use Rattle.defect_map.specs.Queries.{CrossesNoneX, CrossesNoneY}
use Rattle.plan_trace.specs.declared.laid.Laid.{Laid}
use Rattle.plan_trace.specs.Marks.{Level, NewPlate, Over, level_of, Draw, draw_of, drawn, begins, item_width, item_height, cell_width, no_place, Cut, no_cut, Spot, spot}
use Rattle.glass_base.specs.declared.limits.TheConstants.{MOST_SIDE}

-- the draws of steps before others, the newest first
abbrev pub draws_before : List Step → List Draw → List Draw
draws_before [] done = done
draws_before (s ∷ later) done = draws_before later (draw_of s ∷ done)

abbrev pub draws_of : List Step → List Draw
draws_of steps = draws_before steps []

-- as a placed step, whose sums no rule reads
abbrev pub cut_of : Laid → Cut
cut_of s = record {
  place = record no_place {
    draw = draw_of s.step;
    item = s.item;
    plates = s.plates;
    plate = s.plates - 1;
    w = s.w;
    h = s.h;
    cell_w = s.cell_w;
  };
  a = s.step.a;
  b = s.step.b;
  c = s.step.c;
  d = s.step.d;
  e = s.step.e;
}

abbrev pub no_step : Step
no_step = record { stack = 0; turn = 0; kind = 0; lift = 0; a = 0; b = 0; c = 0; d = 0; e = 0 }

-- stands before the first step
abbrev pub no_laid : Laid
no_laid = record { level = NewPlate; step = no_step; plates = 0; item = None; w = 0; h = 0; cell_w = 0 }

-- the step behind one that is laid
abbrev pub next_laid : Problem → List Draw → Laid → Step → Laid
next_laid b before t s =
    let l : Level = begins before s.kind in
    let i : Option Item = item_at b s.stack (drawn before s.stack) in
    let w : ℕ = item_width s.turn i in
    record {
      level = l;
      step = s;
      plates = plates_after s.kind t.plates;
      item = i;
      w = w;
      h = item_height s.turn i;
      cell_w = cell_width l t.cell_w w;
    }

-- the levels that later steps have
abbrev pub levels_of : List Step → List Level
levels_of steps = map (λ s. level_of s.kind) steps

-- later steps, of which rules read the levels alone
abbrev pub ahead : List Step → List Spot
ahead [] = []
ahead (s ∷ later) = spot (level_of s.kind) no_cut ∷ ahead later

-- an item that lies in its cell, in its band, in its strip
pub record IsFitted (s : Laid) : Type 0 where
  pub wide : 1 ≤ s.w
  pub high : 1 ≤ s.h
  pub right : s.step.e + s.w ≤ s.step.b
  pub upper : s.step.c + s.h ≤ s.step.d
  pub left : s.step.a ≤ s.step.e
  pub end : s.step.b ≤ MOST_SIDE
  pub top : s.step.d ≤ MOST_SIDE

-- an item over another one fills the cell with it; `m` is the level of the step before
abbrev pub OverFits : Level → Cut → Cut → Type 0
OverFits m t s = (s.draw.lift ≡ 0) × (s.w ≡ t.w) × (t.draw.lift ≡ 0) × ¬ (m ≡ Over) × (s.c + (t.h + s.h) ≡ s.d)

-- the sides of a step's strip, of its band and of its item's cell run through no defect
abbrev pub StripClear : Problem → List Defect → Cut → Type 0
StripClear b defects s =
    (0 < s.a → CrossesNoneX defects s.plate s.a 0 b.params.height) × (s.b < Width b s.plate → CrossesNoneX defects s.plate s.b 0 b.params.height)

abbrev pub BandClear : Params → List Defect → Cut → Type 0
BandClear p defects s =
    (0 < s.c → CrossesNoneY defects s.plate s.c s.a s.b) × (s.d < p.height → CrossesNoneY defects s.plate s.d s.a s.b)

abbrev pub CellClear : List Defect → Cut → Type 0
CellClear defects s =
    (s.a < s.e → CrossesNoneX defects s.plate s.e s.c s.d) × (s.e + s.w < s.b → CrossesNoneX defects s.plate (s.e + s.w) s.c s.d)

-- the line above an item that does not fill its cell, and the line below one that is lifted
abbrev pub UpperClear : List Defect → Cut → Type 0
UpperClear defects s = s.c + s.h < s.d → CrossesNoneY defects s.plate (s.c + s.h) s.e (s.e + s.w)

abbrev pub LowerClear : List Defect → Cut → Type 0
LowerClear defects s = CrossesNoneY defects s.plate (s.d - s.h) s.e (s.e + s.w)

-- steps that are laid, one after another
abbrev pub laid_list : Problem → List Draw → Laid → List Step → List Laid
laid_list b before last [] = []
laid_list b before last (s ∷ later) = next_laid b before last s ∷ laid_list b (draw_of s ∷ before) (next_laid b before last s) later
