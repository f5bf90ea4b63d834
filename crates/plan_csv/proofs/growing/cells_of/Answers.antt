use Rattle.plan_csv.proofs.GrownPieces.{growing-end, growing-more}
use Rattle.plan_csv.proofs.growing.cells_of.Goals as goal

pub loop-row-preserved : goal.loop-row-preserved
loop-row-preserved c = growing-more c.cell_of.result _ _ c.loop-row.invariant c.loop-row-test.true c.cell_of.ensures c.in_ok-append.ensures.ok

pub returns : goal.returns
returns c = growing-end c.loop-row.invariant c.loop-row-test.false
