-- How wide the cuts of decided steps are, and the widest of some that can be split.
use Rattle.std.specs.Prelude.{◌≡◌, ℕ, ◌+◌, ◌-◌, ◌^◌, ◌≤◌, List, min, Option, Some, None, All, IsTrue, false, slice_get}
use Rattle.std.specs.Option.{option_map_or}
use Rattle.plan_box.specs.Decisions.{is_free}
use Rattle.plan_box.specs.Leasts.{Known}
use Rattle.plan_box.specs.Ranges.{Ranges}
use Rattle.plan_box.specs.declared.var.Var.{Var}
use Rattle.box_bound.specs.declared.cuts.StepCut.{StepCut}
use Rattle.box_bound.specs.Kept.{late}
use Rattle.box_bound.specs.Leastings.{Leastings}

-- how many numbers there are from a least value to a high end
abbrev pub numbers_from : ℕ → ℕ → ℕ
numbers_from least high = min (high + 1) (2 ^ 32 - 1) - least

-- how many numbers a cut can be from its least value to its high end
abbrev pub span_in : Var → Known → ℕ
span_in Var.A k = numbers_from k.least_a k.high_a
span_in Var.B k = numbers_from k.least_b k.high_b
span_in Var.C k = numbers_from k.least_c k.high_c
span_in Var.D k = numbers_from k.least_d k.high_d
span_in Var.E k = numbers_from k.least_e k.high_e
span_in _ k = 0

-- the same of a step that may be kept; 0 where it is not
abbrev pub span_at : Leastings → ℕ → Var → ℕ
span_at v step var = option_map_or (λ k. span_in var (late k)) (slice_get v.steps step) 0

-- a variable is as wide as this cut, where the cut can be split
abbrev pub IsAsWide : Leastings → List Ranges → ℕ × Var → StepCut → Type 0
IsAsWide v rs p cut = IsTrue (is_free rs cut.step cut.var) → span_at v cut.step cut.var ≤ span_at v p.0 p.1

-- of these cuts one that can be split and is as wide as any other such one, or none where none can be split
abbrev pub IsWidest : Leastings → List Ranges → List StepCut → Option (ℕ × Var) → Type 0
IsWidest v rs cuts None = All (λ cut. is_free rs cut.step cut.var ≡ false) cuts
IsWidest v rs cuts (Some p) = IsTrue (is_free rs p.0 p.1) × All (IsAsWide v rs p) cuts
