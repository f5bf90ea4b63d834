use Rattle.std.proofs.Common.{arith}
use Rattle.front_table.proofs.WidthLists.{rises_by, rises_next}
use Rattle.front_table.proofs.bands.rises.Goals as goal

pub loop-at-preserved : goal.loop-at-preserved
loop-at-preserved c = rises_next c.args.bands.now c.loop-at.at (omega (arith, c.loop-at.auto.at)) c.loop-at.invariant (omega (arith, c.if-wide_at.false, c.wide_at.ensures, c.wide_at-in-loop-at.ensures))

pub returns : goal.returns
returns c = λ yes. rises_by c.args.bands.now (λ i j le lt. c.loop-at.invariant i j le (omega (arith, lt, c.loop-at-test.false)))
