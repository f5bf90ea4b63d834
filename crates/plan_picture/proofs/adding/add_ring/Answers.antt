use Rattle.std.proofs.Common.{rules}
use Rattle.plan_picture.proofs.adding.add_ring.Goals as goal

pub returns-in-Some : goal.returns-in-Some
returns-in-Some c = search rules
