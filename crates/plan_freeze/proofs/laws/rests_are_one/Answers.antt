use Rattle.plan_freeze.proofs.SameRests.{rest_is_one}
use Rattle.plan_freeze.proofs.laws.rests_are_one.Goals as goal

pub returns : goal.returns
returns c = rest_is_one
