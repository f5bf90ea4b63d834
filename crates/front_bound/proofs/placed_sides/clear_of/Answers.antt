use Rattle.std.proofs.Common.{inr, arith}
use Rattle.front_table.proofs.HeldLists.{least_first}
use Rattle.front_bound.proofs.placed_sides.clear_of.Goals as goal

pub loop-preserved : goal.loop-preserved
loop-preserved c = λ right has within line.
    let held = c.loop.invariant right has within line in
    let side = c.past-side.ensures right (least_first c.loop.clear right held) within line in
    c.meet-clear.ensures right held (inr (omega (arith, side, c.above.ensures, c.from.ensures)))
