use Rattle.plan_csv.proofs.ReadAgain.{read_again}
use Rattle.plan_csv.proofs.laws.plans_are_read_again.Goals as goal

pub returns : goal.returns
returns c = read_again
