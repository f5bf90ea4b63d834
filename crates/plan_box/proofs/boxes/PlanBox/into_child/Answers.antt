use Rattle.std.proofs.Common.{arith}
use Rattle.plan_box.proofs.Stored.{decided_of_box}
use Rattle.plan_box.proofs.boxes.PlanBox.into_child.Goals as goal

pub reaching-reached-requires-clause-reached : goal.reaching-reached-requires-clause-reached
reaching-reached-requires-clause-reached c =
    omega (arith, c.requires.reached, decided_of_box c.self.inside.id c.self.inside.frame c.self.inside.stored.items c.args.self c.self.view_is)

pub reaching-reached-requires-clause-room : goal.reaching-reached-requires-clause-room
reaching-reached-requires-clause-room c =
    omega (arith, c.requires.room, decided_of_box c.self.inside.id c.self.inside.frame c.self.inside.stored.items c.args.self c.self.view_is)
