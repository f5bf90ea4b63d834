use Rattle.std.proofs.Common.{rules}
use Rattle.glass_io.proofs.faults.count_read.Goals as goal

pub returns-clause-counted : goal.returns-clause-counted
returns-clause-counted c = search rules

pub returns-clause-others : goal.returns-clause-others
returns-clause-others c = search rules
