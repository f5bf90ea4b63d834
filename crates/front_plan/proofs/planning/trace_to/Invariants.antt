use Rattle.std.proofs.Common.{◌≡◌, length}
use Rattle.front_plan.proofs.planning.trace_to.Given as goal

abbrev pub invariant-loop : goal.invariant-loop
invariant-loop l = record {
  len : length l.pool ≡ length l.search.fronts.rows.now;
}
