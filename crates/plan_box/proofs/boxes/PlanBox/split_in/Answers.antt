use Rattle.std.proofs.Common.{ap, arith}
use Rattle.plan_box.specs.declared.frame.Frame.{Frame}
use Rattle.plan_box.proofs.Counts.{decided_few}
use Rattle.plan_box.proofs.Stored.{box_from}
use Rattle.plan_box.proofs.boxes.PlanBox.split_in.Goals as goal

pub split_over-lower-requires-clause-room : goal.split_over-lower-requires-clause-room
split_over-lower-requires-clause-room c =
    let count = (box_from c.self.inside.id c.self.inside.frame c.self.inside.stored.items c.args.self c.self.invariant c.self.view_is).1 in
    let items = ap (λ (f : Frame). f.items) c.requires.room in
    let few = decided_few c.args.self.ranges in
    let frame = ap (λ x. x.frame.items) c.self.view_is in
    (omega (arith, c.blanks.ensures.lower, items, few, count, frame), omega (arith, c.blanks.ensures.upper, items, few, count, frame))
