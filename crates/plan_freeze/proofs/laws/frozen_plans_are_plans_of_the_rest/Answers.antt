use Rattle.plan_freeze.proofs.FrozenLaw.{rest_is_planned, rest_loses}
use Rattle.plan_freeze.proofs.laws.frozen_plans_are_plans_of_the_rest.Goals as goal

pub returns-clause-lawful : goal.returns-clause-lawful
returns-clause-lawful c = rest_is_planned

pub returns-clause-loss : goal.returns-clause-loss
returns-clause-loss c = rest_loses
