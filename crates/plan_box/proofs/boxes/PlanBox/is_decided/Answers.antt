use Rattle.std.proofs.Common.{refl, sym}
use Rattle.plan_box.proofs.Stored.{box_from}
use Rattle.plan_box.proofs.boxes.PlanBox.is_decided.Goals as goal

pub returns : goal.returns
returns c =
    let box = box_from c.self.inside.id c.self.inside.frame c.self.inside.stored.items c.args.self.now c.self.invariant c.self.view_is in
    rw (c.decided.ensures, sym box.1) refl
