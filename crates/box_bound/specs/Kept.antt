-- Decided steps as code keeps them, and what is known of each.
use Rattle.std.specs.Prelude.{◌-◌, None}
use Rattle.plan_trace.specs.declared.level.Level.TheVariants.{NewPlate}
use Rattle.plan_trace.specs.Marks.{Place}
use Rattle.plan_box.specs.Leasts.{Known, Fixed, fixed}
use Rattle.box_bound.specs.declared.ends.Ends.{Ends}
use Rattle.box_bound.specs.declared.kept.Kept.{Kept}
use Rattle.box_bound.specs.declared.placed.Placed.{Placed}

abbrev pub place_in : Placed → Place
place_in p = record {
  draw = record { stack = p.stack; turn = p.turn; kind = p.kind; lift = p.lift };
  item = p.item;
  plates = p.plates;
  plate = p.plates - 1;
  w = p.w;
  h = p.h;
  cell_w = p.cell_w;
  cell_h = p.cell_h;
  band_w = p.band_w;
  strip_w = p.strip_w;
  band_area = p.band_area;
  area = p.area;
}

abbrev pub known_of : Placed → Ends → Known
known_of p x = record {
  place = place_in p;
  least_a = x.least_a;
  high_a = x.high_a;
  least_b = x.least_b;
  high_b = x.high_b;
  least_c = x.least_c;
  high_c = x.high_c;
  least_d = x.least_d;
  high_d = x.high_d;
  least_e = x.least_e;
  high_e = x.high_e;
}

abbrev pub no_ends : Ends
no_ends = record { least_a = 0; high_a = 0; least_b = 0; high_b = 0; least_c = 0; high_c = 0; least_d = 0; high_d = 0; least_e = 0; high_e = 0 }

abbrev pub no_placed : Placed
no_placed = record {
  stack = 0;
  turn = 0;
  kind = 0;
  lift = 0;
  item = None;
  plates = 0;
  w = 0;
  h = 0;
  cell_w = 0;
  cell_h = 0;
  band_w = 0;
  strip_w = 0;
  band_area = 0;
  area = 0;
}

-- a step of which nothing is known
abbrev pub blank : Kept
blank = record {
  ranges = record { turn_lift = 0; kind = 0; stack = (0, 0); a = (0, 0); b = (0, 0); c = (0, 0); d = (0, 0); e = (0, 0) };
  level = NewPlate;
  place = no_placed;
  so_far = no_ends;
  ends = no_ends;
}

abbrev pub with_ends : Ends → Kept → Kept
with_ends x k = record k { ends = x }

-- what is known of a step by itself and the earlier ones
abbrev pub early : Kept → Known
early k = known_of k.place k.so_far

-- what is known of it by all decided steps
abbrev pub late : Kept → Known
late k = known_of k.place k.ends

abbrev pub early_fixed : Kept → Fixed
early_fixed k = fixed k.level (early k)

abbrev pub late_fixed : Kept → Fixed
late_fixed k = fixed k.level (late k)
