use Rattle.std.proofs.Common.{rules}
use Rattle.box_workers.proofs.hand.keep.Goals as goal

pub returns-clause-kept : goal.returns-clause-kept
returns-clause-kept c = search rules
