use Rattle.plan_csv.proofs.AddedUp.{plan_within}
use Rattle.plan_csv.proofs.laws.plans_that_add_up_are_within.Goals as goal

pub returns : goal.returns
returns c = plan_within
