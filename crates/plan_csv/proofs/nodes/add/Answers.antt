use Rattle.std.proofs.Common.{rules}
use Rattle.plan_csv.proofs.nodes.add.Goals as goal

pub returns : goal.returns
returns c = search rules
