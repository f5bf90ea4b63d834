use Rattle.std.proofs.Common.{rules}
use Rattle.box_workers.proofs.Outcome.{joined_again}
use Rattle.box_workers.proofs.finishing.settle.Goals as goal

pub returns-clause-same : goal.returns-clause-same
returns-clause-same c = let j = joined_again c.args.seat.now.view c.requires.small in search rules
