use Rattle.std.proofs.Common.{length}
use Rattle.plan_box.proofs.blank.Blank.of.Given as goal

abbrev pub decreases-loop : goal.decreases-loop
decreases-loop l = length l.ranges.items
