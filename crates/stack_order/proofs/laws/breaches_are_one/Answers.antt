use Rattle.stack_order.proofs.Ones.{breaches_one}
use Rattle.stack_order.proofs.laws.breaches_are_one.Goals as goal

pub returns : goal.returns
returns c = breaches_one
