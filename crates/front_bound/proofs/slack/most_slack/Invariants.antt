use Rattle.std.proofs.Common.{◌≤◌}
use Rattle.front_bound.proofs.slack.most_slack.Given as goal

abbrev pub invariant-loop-label : goal.invariant-loop-label
invariant-loop-label l = l.slack ≤ l.most
