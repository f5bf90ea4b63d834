-- The nine variables of a step by their numbers.
use Rattle.std.specs.Prelude.{ℕ}
use Rattle.plan_box.specs.declared.var.Var.{Var}

-- the place of a variable in their order, from 0
abbrev pub var_number : Var → ℕ
var_number Var.Stack = 0
var_number Var.Turn = 1
var_number Var.Kind = 2
var_number Var.Lift = 3
var_number Var.A = 4
var_number Var.B = 5
var_number Var.C = 6
var_number Var.D = 7
var_number Var.E = 8
