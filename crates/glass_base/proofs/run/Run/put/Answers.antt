use Rattle.std.proofs.Common.{rules}
use Rattle.glass_base.proofs.run.Run.put.Goals as goal

pub invariant_of-self : goal.invariant_of-self
invariant_of-self g c = search rules

pub returns-clause-spare : goal.returns-clause-spare
returns-clause-spare g c = search rules
