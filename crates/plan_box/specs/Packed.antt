-- Ranges as a box stores them: those of the first steps, in little room. The other steps have full ranges.
use Rattle.std.specs.Prelude.{ℕ, ◌-◌, ◌/◌, ◌%◌, List, ◌++◌, length, replicate}
use Rattle.plan_box.specs.declared.frame.Frame.{Frame}
use Rattle.plan_box.specs.declared.packed.Packed.{Packed}
use Rattle.plan_box.specs.declared.var.Var.{Var}
use Rattle.plan_box.specs.Ranges.{Span, Ranges, full_ranges}

-- a range as its two ends
abbrev pub between : ℕ × ℕ → Span
between ends = record { low = ends.0; high = ends.1 }

-- the ranges that are stored so: the low and the high end of turn, then those of lift, have a bit each; those of kind have three
abbrev pub unpacked : Packed → Ranges
unpacked x = record {
  stack = between x.stack;
  turn = record { low = x.turn_lift / 8; high = x.turn_lift / 4 % 2 };
  kind = record { low = x.kind / 8; high = x.kind % 8 };
  lift = record { low = x.turn_lift / 2 % 2; high = x.turn_lift % 2 };
  a = between x.a;
  b = between x.b;
  c = between x.c;
  d = between x.d;
  e = between x.e;
}

-- the greatest high end that can be stored
abbrev pub limit_of : Var → ℕ
limit_of Var.Turn = 1
limit_of Var.Kind = 4
limit_of Var.Lift = 1
limit_of _ = 65535

-- the ranges of all steps, of which only the first ones are given: the others are full
abbrev pub all_ranges : Frame → List Ranges → List Ranges
all_ranges f stored = stored ++ replicate (f.items - length stored) (full_ranges f)
