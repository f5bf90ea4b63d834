use Rattle.std.proofs.Common.{◌-◌, length}
use Rattle.box_bound.proofs.walking.+walk.Given as goal

abbrev pub decreases-walk : goal.decreases-walk
decreases-walk l = length l.ranges.now - l.at
