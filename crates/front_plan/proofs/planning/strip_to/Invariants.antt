use Rattle.std.proofs.Common.{◌≡◌, length}
use Rattle.front_plan.proofs.planning.strip_to.Given as goal

abbrev pub invariant-loop-from : goal.invariant-loop-from
invariant-loop-from l = record {
  len : length l.pool ≡ length l.search.fronts.rows.now;
}
