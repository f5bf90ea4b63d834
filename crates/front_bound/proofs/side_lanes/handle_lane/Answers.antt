use Rattle.std.proofs.Common.{rules}
use Rattle.front_bound.proofs.side_lanes.handle_lane.Goals as goal

pub returns : goal.returns
returns c = search rules
