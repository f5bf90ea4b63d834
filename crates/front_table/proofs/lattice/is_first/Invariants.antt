use Rattle.std.proofs.Common.{◌≡◌, ℕ, ◌<◌}
use Rattle.front_table.specs.Lattice.{count_at}
use Rattle.front_table.proofs.lattice.is_first.Given as goal

abbrev pub invariant-loop-stack : goal.invariant-loop-stack
invariant-loop-stack l = (k : ℕ) → k < l.stack → count_at l.fn.rows l.fn.row k ≡ 0
