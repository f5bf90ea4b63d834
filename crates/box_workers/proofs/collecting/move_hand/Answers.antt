use Rattle.std.proofs.Common.{rules}
use Rattle.box_workers.proofs.collecting.move_hand.Goals as goal

pub returns-then-other-hand : goal.returns-then-other-hand
returns-then-other-hand c = search rules
