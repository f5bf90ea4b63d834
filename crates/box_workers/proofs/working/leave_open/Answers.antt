use Rattle.std.proofs.Common.{rules}
use Rattle.box_workers.proofs.working.leave_open.Goals as goal

pub returns-clause-leaves : goal.returns-clause-leaves
returns-clause-leaves c = search rules
