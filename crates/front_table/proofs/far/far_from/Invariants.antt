use Rattle.std.proofs.Common.{◌≡◌, length}
use Rattle.front_table.proofs.far.far_from.Given as goal

abbrev pub invariant-loop : goal.invariant-loop
invariant-loop l = length l.pool ≡ length l.fn.pool
