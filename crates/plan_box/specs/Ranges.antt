-- Boxes: a range for each of the nine numbers of each step, and the traces that lie in them.
use Rattle.std.specs.Prelude.{◌≡◌, ℕ, ◌-◌, ◌≤◌, List, [], ◌∷◌, length, replicate, All}
use Rattle.cut_model.specs.declared.steps.Step.{Step}
use Rattle.plan_box.specs.declared.frame.Frame.{Frame}
use Rattle.plan_box.specs.declared.var.Var.{Var}

-- the whole numbers from `low` to `high`, both included
pub record Span : Type 0 where
  pub low : ℕ
  pub high : ℕ

-- the ranges of a step
pub record Ranges : Type 0 where
  pub stack : Span
  pub turn : Span
  pub kind : Span
  pub lift : Span
  pub a : Span
  pub b : Span
  pub c : Span
  pub d : Span
  pub e : Span

-- the range of a variable
abbrev pub span_of : Var → Ranges → Span
span_of Var.Stack r = r.stack
span_of Var.Turn r = r.turn
span_of Var.Kind r = r.kind
span_of Var.Lift r = r.lift
span_of Var.A r = r.a
span_of Var.B r = r.b
span_of Var.C r = r.c
span_of Var.D r = r.d
span_of Var.E r = r.e

-- the ranges with that of one variable replaced
abbrev pub with_span : Var → Span → Ranges → Ranges
with_span Var.Stack x r = record r { stack = x }
with_span Var.Turn x r = record r { turn = x }
with_span Var.Kind x r = record r { kind = x }
with_span Var.Lift x r = record r { lift = x }
with_span Var.A x r = record r { a = x }
with_span Var.B x r = record r { b = x }
with_span Var.C x r = record r { c = x }
with_span Var.D x r = record r { d = x }
with_span Var.E x r = record r { e = x }

-- from 0 to this number
abbrev pub upto : ℕ → Span
upto high = record { low = 0; high = high }

-- the full ranges of a step
abbrev pub full_ranges : Frame → Ranges
full_ranges f = record {
  stack = upto (f.stacks - 1);
  turn = upto 1;
  kind = upto 4;
  lift = upto 1;
  a = upto f.width;
  b = upto f.width;
  c = upto f.height;
  d = upto f.height;
  e = upto f.width;
}

-- a box as contracts see it: its identity, its frame, and the ranges of each step
pub record PlainBox : Type 0 where
  pub id : ℕ
  pub frame : Frame
  pub ranges : List Ranges

-- each range has a number, and lies in the full range
abbrev pub AreInFrame : Frame → Ranges → Type 0
AreInFrame f r = (v : Var) → ((span_of v r).low ≤ (span_of v r).high) × ((span_of v r).high ≤ (span_of v (full_ranges f)).high)

-- what every box keeps: ranges for each item of its frame, each in its full range
pub record IsBox (x : PlainBox) : Type 0 where
  pub each_step : length x.ranges ≡ x.frame.items
  pub in_frame : All (AreInFrame x.frame) x.ranges

-- the box in which every range is full
abbrev pub root_of : Frame → ℕ → PlainBox
root_of f id = record { id = id; frame = f; ranges = replicate f.items (full_ranges f) }

abbrev pub IsWithin : ℕ → Span → Type 0
IsWithin n x = (x.low ≤ n) × (n ≤ x.high)

-- each number of the step is in its range
pub record StepIn (s : Step) (r : Ranges) : Type 0 where
  pub stack : IsWithin s.stack r.stack
  pub turn : IsWithin s.turn r.turn
  pub kind : IsWithin s.kind r.kind
  pub lift : IsWithin s.lift r.lift
  pub a : IsWithin s.a r.a
  pub b : IsWithin s.b r.b
  pub c : IsWithin s.c r.c
  pub d : IsWithin s.d r.d
  pub e : IsWithin s.e r.e

-- a trace that has a step for each list of ranges, and each number of each step in its range
abbrev pub InBox : List Step → List Ranges → Type 0
InBox [] [] = Unit {0}
InBox [] (_ ∷ _) = ⊥
InBox (_ ∷ _) [] = ⊥
InBox (s ∷ ss) (r ∷ rs) = StepIn s r × InBox ss rs
