use Rattle.cut_rules.proofs.Ones.{breaches_one}
use Rattle.cut_rules.proofs.laws.breaches_are_one.Goals as goal

pub returns : goal.returns
returns c = breaches_one
