use Rattle.plan_freeze.proofs.SameRests.{rest_is_same}
use Rattle.plan_freeze.proofs.laws.rests_are_left_by_all.Goals as goal

pub returns : goal.returns
returns c = rest_is_same
