use Rattle.std.proofs.Common.{◌≡◌, length}
use Rattle.front_plan.proofs.planning.strip_from.Given as goal

abbrev pub invariant-loop-side : goal.invariant-loop-side
invariant-loop-side l = record {
  len : length l.pool ≡ length l.search.fronts.rows.now;
}
