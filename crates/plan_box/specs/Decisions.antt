-- What a box leaves open: decided steps, opened and free variables, points.
use Rattle.std.specs.Prelude.{◌≡◌, ℕ, zero, suc, ◌==◌, ◌&&◌, List, [], ◌∷◌, length, Bool, true, false, cond}
use Rattle.cut_model.specs.declared.steps.Step.{Step}
use Rattle.plan_trace.specs.declared.level.Level.{Level}
use Rattle.plan_trace.specs.declared.level.Level.TheVariants.{NewPlate, NewStrip, NewBand, NewCell, Over}
use Rattle.plan_trace.specs.Marks.{Draw, begins, level_of}
use Rattle.plan_box.specs.declared.var.Var.{Var}
use Rattle.plan_box.specs.Ranges.{Span, Ranges, span_of}

-- the range is a single number
abbrev pub is_single : Span → Bool
is_single x = x.low == x.high

-- the discrete numbers of the step are known
abbrev pub is_drawn : Ranges → Bool
is_drawn r = is_single r.stack && (is_single r.turn && (is_single r.kind && is_single r.lift))

-- the discrete numbers of a decided step
abbrev pub draw_at : Ranges → Draw
draw_at r = record { stack = r.stack.low; turn = r.turn.low; kind = r.kind.low; lift = r.lift.low }

-- the draws of the decided steps: those from the first on whose discrete numbers are known
abbrev pub decided : List Ranges → List Draw
decided [] = []
decided (r ∷ rs) = cond (is_drawn r) (draw_at r ∷ decided rs) []

-- all steps are decided
abbrev pub all_decided : List Ranges → Bool
all_decided rs = length (decided rs) == length rs

-- what a decided step begins, by its place and its kind; the first step begins a plate
abbrev pub level_at : ℕ → ℕ → Level
level_at zero kind = NewPlate
level_at (suc _) kind = level_of kind

-- a decided step of this level opens the variable: it begins a piece that the variable is a side of
abbrev pub opens : Level → Var → Bool
opens _ Var.Stack = false
opens _ Var.Turn = false
opens _ Var.Kind = false
opens _ Var.Lift = false
opens NewPlate _ = true
opens NewStrip _ = true
opens NewBand Var.C = true
opens NewBand Var.D = true
opens NewBand Var.E = true
opens NewCell Var.E = true
opens _ _ = false

-- the variable is one of the discrete numbers
abbrev pub is_discrete : Var → Bool
is_discrete Var.Stack = true
is_discrete Var.Turn = true
is_discrete Var.Kind = true
is_discrete Var.Lift = true
is_discrete _ = false

-- the variable of this step can be split; `before` has the draws of the steps before these ranges, the newest first
abbrev pub is_free_from : List Draw → List Ranges → ℕ → Var → Bool
is_free_from before [] step v = false
is_free_from before (r ∷ rs) zero v =
    cond (is_single (span_of v r)) false (cond (is_drawn r) (opens (begins before r.kind.low) v) (is_discrete v))
is_free_from before (r ∷ rs) (suc step) v = cond (is_drawn r) (is_free_from (draw_at r ∷ before) rs step v) false

-- the variable of this step can be split: its range has more than one number, and it is opened by a decided step, or is a
-- discrete number of the first undecided step
abbrev pub is_free : List Ranges → ℕ → Var → Bool
is_free rs step v = is_free_from [] rs step v

-- nothing is free
abbrev pub IsPoint : List Ranges → Type 0
IsPoint rs = (step : ℕ) (v : Var) → is_free rs step v ≡ false

-- stands before the first step
abbrev pub no_step : Step
no_step = record { stack = 0; turn = 0; kind = 0; lift = 0; a = 0; b = 0; c = 0; d = 0; e = 0 }

-- the low ends of a decided step, with the numbers that it does not open taken from the step before
abbrev pub low_step : Level → Step → Ranges → Step
low_step NewPlate t r = record { stack = r.stack.low; turn = r.turn.low; kind = r.kind.low; lift = r.lift.low; a = r.a.low; b = r.b.low; c = r.c.low; d = r.d.low; e = r.e.low }
low_step NewStrip t r = record { stack = r.stack.low; turn = r.turn.low; kind = r.kind.low; lift = r.lift.low; a = r.a.low; b = r.b.low; c = r.c.low; d = r.d.low; e = r.e.low }
low_step NewBand t r = record { stack = r.stack.low; turn = r.turn.low; kind = r.kind.low; lift = r.lift.low; a = t.a; b = t.b; c = r.c.low; d = r.d.low; e = r.e.low }
low_step NewCell t r = record { stack = r.stack.low; turn = r.turn.low; kind = r.kind.low; lift = r.lift.low; a = t.a; b = t.b; c = t.c; d = t.d; e = r.e.low }
low_step Over t r = record { stack = r.stack.low; turn = r.turn.low; kind = r.kind.low; lift = r.lift.low; a = t.a; b = t.b; c = t.c; d = t.d; e = t.e }

abbrev pub low_steps : List Draw → Step → List Ranges → List Step
low_steps before t [] = []
low_steps before t (r ∷ rs) = let s : Step = low_step (begins before r.kind.low) t r in s ∷ low_steps (draw_at r ∷ before) s rs

-- the numbers of a box, where it is a point
abbrev pub numbers_of : List Ranges → List Step
numbers_of rs = low_steps [] no_step rs
