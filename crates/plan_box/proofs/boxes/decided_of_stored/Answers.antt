use Rattle.std.proofs.Common.{arith, sym, true, false}
use Rattle.plan_box.proofs.Children.{stored_last}
use Rattle.plan_box.proofs.boxes.decided_of_stored.Goals as goal

pub returns-then-is_drawn : goal.returns-then-is_drawn
returns-then-is_drawn c =
    omega (
      arith,
      c.in-Some.ensures.cases.1,
      stored_last c.args.stored.now c.in-Some.before.now c.in-Some.last.now true c.in-Some.ensures.cases.0 (sym c.if-is_drawn.ensures) c.requires,
    )

pub returns-else-is_drawn : goal.returns-else-is_drawn
returns-else-is_drawn c =
    sym (stored_last c.args.stored.now c.in-Some.before.now c.in-Some.last.now false c.in-Some.ensures.cases.0 (sym c.if-is_drawn.ensures) c.requires)
