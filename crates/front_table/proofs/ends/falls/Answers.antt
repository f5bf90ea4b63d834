use Rattle.std.proofs.Common.{arith}
use Rattle.front_table.proofs.Staircases.{falls_by, falls_next}
use Rattle.front_table.proofs.ends.falls.Goals as goal

pub loop-at-preserved : goal.loop-at-preserved
loop-at-preserved c =
    falls_next c.args.ends.now c.loop-at.at (omega (arith, c.loop-at.auto.at)) c.loop-at.invariant (omega (arith, c.if-area_in.false, c.area_in.ensures, c.area_in-in-loop-at.ensures))
    (omega (arith, c.if-to_go_in.false, c.to_go_in.ensures, c.to_go_in-in-loop-at.ensures))

pub returns : goal.returns
returns c = λ yes. falls_by c.args.ends.now (λ i j le lt. c.loop-at.invariant i j le (omega (arith, lt, c.loop-at-test.false)))
