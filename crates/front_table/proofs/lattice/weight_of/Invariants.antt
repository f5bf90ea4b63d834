use Rattle.std.proofs.Common.{◌≡◌, ◌+◌, drop}
use Rattle.front_table.specs.Lattice.{count_at, weight_from}
use Rattle.front_table.proofs.lattice.weight_of.Given as goal

abbrev pub invariant-loop-stack : goal.invariant-loop-stack
invariant-loop-stack l =
    l.sum + weight_from (drop l.stack l.fn.weights) l.stack (count_at l.fn.rows l.fn.row) ≡ weight_from l.fn.weights 0 (count_at l.fn.rows l.fn.row)
