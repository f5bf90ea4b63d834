use Rattle.std.proofs.Common.{◌≡◌, length}
use Rattle.front_plan.proofs.piling.filled.Given as goal

abbrev pub invariant-loop : goal.invariant-loop
invariant-loop l = record {
  len : length l.pool ≡ length l.frame.search.now.fronts.rows.now;
}
