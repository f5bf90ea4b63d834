-- What code asks of a step: whether anything of it is open.
use Rattle.std.specs.Prelude.{ℕ, ◌||◌, List, Bool}
use Rattle.plan_box.specs.declared.var.Var.{Var}
use Rattle.plan_box.specs.Decisions.{is_free}
use Rattle.plan_box.specs.Ranges.{Ranges}

-- some variable of this step can be split
abbrev pub is_open : List Ranges → ℕ → Bool
is_open rs step =
    is_free rs step Var.Stack
    || (is_free rs step Var.Turn
    || (is_free rs step Var.Kind
    || (is_free rs step Var.Lift
    || (is_free rs step Var.A
    || (is_free rs step Var.B
    || (is_free rs step Var.C
    || (is_free rs step Var.D
    || is_free rs step Var.E)))))))
