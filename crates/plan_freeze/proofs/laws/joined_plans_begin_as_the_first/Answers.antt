use Rattle.plan_freeze.proofs.FrozenLaw.{whole_is_found}
use Rattle.plan_freeze.proofs.laws.joined_plans_begin_as_the_first.Goals as goal

pub returns : goal.returns
returns c = whole_is_found
