-- Decided steps as code keeps them, and what is known of each.
use Rattle.std.specs.Prelude.{◌≡◌, ℕ, ◌-◌, List, map, length, All, None}
use Rattle.glass_base.specs.Problem.{Problem}
use Rattle.plan_trace.specs.declared.level.Level.{Level}
use Rattle.plan_trace.specs.declared.level.Level.TheVariants.{NewPlate}
use Rattle.plan_trace.specs.Marks.{Place}
use Rattle.plan_box.specs.Leasts.{Known, Fixed, fixed, known}
use Rattle.plan_box.specs.Ranges.{Ranges}
use Rattle.cert_check.specs.declared.scratch.Scratch.{Scratch}
use Rattle.cert_check.specs.declared.steps.Decided.{Decided}
use Rattle.plan_box.specs.Within.{AreWithin}
use Rattle.glass_base.specs.declared.limits.TheConstants.{MOST_ITEMS, MOST_LENGTH}

-- the place of a step
abbrev pub place_in : Decided → Place
place_in k = record {
  draw = record { stack = k.stack; turn = k.turn; kind = k.kind; lift = k.lift };
  item = k.item;
  plates = k.plates;
  plate = k.plates - 1;
  w = k.w;
  h = k.h;
  cell_w = k.cell_w;
  cell_h = k.cell_h;
  band_w = k.band_w;
  strip_w = k.strip_w;
  band_area = k.band_area;
  area = k.area;
}

-- what is known of a step
abbrev pub known_in : Decided → Known
known_in k = record {
  place = place_in k;
  least_a = k.least_a;
  high_a = k.high_a;
  least_b = k.least_b;
  high_b = k.high_b;
  least_c = k.least_c;
  high_c = k.high_c;
  least_d = k.least_d;
  high_d = k.high_d;
  least_e = k.least_e;
  high_e = k.high_e;
}

-- the step as definitions have it
abbrev pub fixed_of : Decided → Fixed
fixed_of k = fixed k.level (known_in k)

-- at another place
abbrev pub with_place : Known → Place → Known
with_place k p = record k { place = p }

-- the decided steps of a box, with what is known of each; none of their numbers is large
pub record AreKnown (b : Problem) (rs : List Ranges) (steps : List Decided) : Type 0 where
  pub values : map fixed_of steps ≡ known b rs
  pub within : All (λ k. AreWithin MOST_LENGTH (known_in k)) steps

-- the lists have a place for each of so many items, and for each stack
pub record HasRoom (items : ℕ) (s : Scratch) : Type 0 where
  pub steps : length s.steps.items ≡ items
  pub numbers : length s.numbers.items ≡ items
  pub taken : length s.taken.items ≡ MOST_ITEMS

-- what some steps begin
abbrev pub levels_in : List Decided → List Level
levels_in steps = map (λ k. k.level) steps

-- stands before the first step
abbrev pub nothing : Decided
nothing = record {
  level = NewPlate;
  stack = 0;
  turn = 0;
  kind = 0;
  lift = 0;
  item = None;
  plates = 0;
  w = 0;
  h = 0;
  cell_w = 0;
  cell_h = 0;
  band_w = 0;
  strip_w = 0;
  band_area = 0;
  area = 0;
  least_a = 0;
  high_a = 0;
  least_b = 0;
  high_b = 0;
  least_c = 0;
  high_c = 0;
  least_d = 0;
  high_d = 0;
  least_e = 0;
  high_e = 0;
}
