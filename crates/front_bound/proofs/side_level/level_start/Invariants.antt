use Rattle.std.proofs.Common.{◌<◌, ◌≤◌}
use Rattle.front_bound.proofs.side_level.level_start.Given as goal

abbrev pub invariant-loop-done : goal.invariant-loop-done
invariant-loop-done l = record {
  some : 1 ≤ l.first;
  down : l.first < l.end;
}
