use Rattle.std.proofs.Common.{◌≡◌, length}
use Rattle.front_plan.proofs.planning.strip_of_class.Given as goal

abbrev pub invariant-loop-left : goal.invariant-loop-left
invariant-loop-left l = record {
  len : length l.pool ≡ length l.search.fronts.rows.now;
}
