use Rattle.std.proofs.Common.{rules}
use Rattle.box_workers.proofs.watching.improvements.Goals as goal

pub returns : goal.returns
returns c = search rules
