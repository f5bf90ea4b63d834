use Rattle.std.proofs.Common.{rules}
use Rattle.plan_picture.proofs.legend.add_verdict.Goals as goal

pub returns-in-Lawful : goal.returns-in-Lawful
returns-in-Lawful c = search rules
