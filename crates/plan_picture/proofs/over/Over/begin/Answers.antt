use Rattle.std.proofs.Common.{rules}
use Rattle.plan_picture.proofs.over.Over.begin.Goals as goal

pub returns-clause-labels : goal.returns-clause-labels
returns-clause-labels c = search rules
