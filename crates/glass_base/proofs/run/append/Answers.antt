use Rattle.std.proofs.Common.{rules}
use Rattle.glass_base.proofs.run.append.Goals as goal

pub returns-clause-ok : goal.returns-clause-ok
returns-clause-ok g c = search rules
