use Rattle.std.proofs.Common.{◌≤◌}
use Rattle.joined_stacks.proofs.grouping.homes_of.Given as goal

abbrev pub invariant-loop-stack : goal.invariant-loop-stack
invariant-loop-stack l = l.next ≤ l.stack
