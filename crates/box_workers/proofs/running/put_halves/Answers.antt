use Rattle.std.proofs.Common.{rules, append_assoc}
use Rattle.box_workers.proofs.running.put_halves.Goals as goal

pub returns : goal.returns
returns c = search (rules, append_assoc)
