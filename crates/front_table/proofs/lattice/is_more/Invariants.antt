use Rattle.std.proofs.Common.{ℕ, ◌<◌}
use Rattle.front_table.specs.Lattice.{IsOneMore}
use Rattle.front_table.proofs.lattice.is_more.Given as goal

abbrev pub invariant-loop-other : goal.invariant-loop-other
invariant-loop-other l = (k : ℕ) → k < l.other → IsOneMore l.fn.rows l.fn.row l.fn.stack l.fn.to k
