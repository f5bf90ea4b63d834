use Rattle.std.proofs.Common.{◌≡◌, length}
use Rattle.front_plan.proofs.plans.trace_within.Given as goal

abbrev pub invariant-loop : goal.invariant-loop
invariant-loop g l = length l.pool ≡ length l.fronts.rows.now
