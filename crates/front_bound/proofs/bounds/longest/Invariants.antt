use Rattle.std.proofs.Common.{◌≤◌}
use Rattle.front_course.specs.Claims.{NoCourseShorter}
use Rattle.front_bound.proofs.bounds.longest.Given as goal

abbrev pub invariant-loop : goal.invariant-loop
invariant-loop g l = record {
  shown : NoCourseShorter l.fronts.instance.now l.shown;
  most : l.shown ≤ l.fn.most;
}
