use Rattle.std.proofs.Common.{arith}
use Rattle.plan_box.proofs.Stored.{decided_of_box}
use Rattle.plan_box.proofs.boxes.PlanBox.child.Goals as goal

pub copied-reached-requires-clause-reached : goal.copied-reached-requires-clause-reached
copied-reached-requires-clause-reached c =
    rw c.as_slice.ensures (omega (arith, c.requires.reached, decided_of_box c.self.inside.id c.self.inside.frame c.self.inside.stored.items c.args.self.now c.self.view_is))

pub copied-reached-requires-clause-room : goal.copied-reached-requires-clause-room
copied-reached-requires-clause-room c =
    rw c.as_slice.ensures (omega (arith, c.requires.room, decided_of_box c.self.inside.id c.self.inside.frame c.self.inside.stored.items c.args.self.now c.self.view_is))
