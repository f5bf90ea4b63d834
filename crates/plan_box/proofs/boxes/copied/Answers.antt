use Rattle.std.proofs.Common.{arith, map}
use Rattle.std.proofs.lemmas.List.{length-map}
use Rattle.plan_box.specs.Packed.{unpacked}
use Rattle.plan_box.proofs.Counts.{decided_few}
use Rattle.plan_box.proofs.Children.{one_are_stored, one_stored}
use Rattle.plan_box.proofs.boxes.copied.Goals as goal

pub returns-then-stored-step-clause-stored : goal.returns-then-stored-step-clause-stored
returns-then-stored-step-clause-stored c =
    rw (c.put.ensures.items, c.put_all.ensures.items, c.list-ranges.ensures.empty)
    (one_are_stored c.args.frame c.args.stored.now c.full.result c.full.ensures (omega (arith, c.requires.inside, c.if-stored-step.true)) (omega (arith, c.requires.reached, c.if-stored-step.true)) c.requires.stored)

pub returns-then-stored-step-clause-ranges : goal.returns-then-stored-step-clause-ranges
returns-then-stored-step-clause-ranges c =
    rw (c.put.ensures.items, c.put_all.ensures.items, c.list-ranges.ensures.empty)
    (one_stored c.args.frame c.args.stored.now c.full.result c.full.ensures (omega (arith, c.requires.inside, c.if-stored-step.true)))

pub returns-clause-longer : goal.returns-clause-longer
returns-clause-longer c =
    rw (c.put_all.ensures.items, c.list-ranges.ensures.empty)
    (omega (arith, c.requires.reached, c.if-stored-step.false, decided_few (map unpacked c.args.stored.now), length-map c.args.stored.now unpacked))
