use Rattle.std.proofs.Common.{ℕ, ◌<◌}
use Rattle.front_table.specs.Lattice.{IsRow}
use Rattle.front_table.proofs.lattice.are_rows.Given as goal

abbrev pub invariant-loop-row : goal.invariant-loop-row
invariant-loop-row l = (k : ℕ) → k < l.row → IsRow l.fn.instance l.fn.weights l.fn.rows k
