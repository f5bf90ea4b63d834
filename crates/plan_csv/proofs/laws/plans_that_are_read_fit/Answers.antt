use Rattle.plan_csv.proofs.TreesInRange.{read_fits}
use Rattle.plan_csv.proofs.laws.plans_that_are_read_fit.Goals as goal

pub returns : goal.returns
returns c = read_fits
