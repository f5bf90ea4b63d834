use Rattle.std.proofs.Common.{◌≡◌, length}
use Rattle.front_plan.proofs.planning.strip_of.Given as goal

abbrev pub invariant-loop-class : goal.invariant-loop-class
invariant-loop-class l = record {
  len : length l.pool ≡ length l.search.fronts.rows.now;
}
