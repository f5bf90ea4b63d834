use Rattle.plan_csv.proofs.GrownPieces.{growing-end, growing-more}
use Rattle.plan_csv.proofs.growing.plates_of.Goals as goal

pub loop-row-preserved : goal.loop-row-preserved
loop-row-preserved c = growing-more c.in_ok-plate_of.field-0 _ _ c.loop-row.invariant c.loop-row-test.true c.in_ok-plate_of.ensures c.in_ok-append.ensures.ok

pub returns : goal.returns
returns c = growing-end c.loop-row.invariant c.loop-row-test.false
