use Rattle.front_table.specs.Lattice.{IsRow}
use Rattle.front_table.proofs.Each.{below_next}
use Rattle.front_table.proofs.lattice.are_rows.Goals as goal

pub loop-row-preserved : goal.loop-row-preserved
loop-row-preserved c = below_next (IsRow c.args.instance.now c.args.weights.now c.args.rows.now) c.loop-row.row c.loop-row.invariant (c.is_row.ensures c.if-not-is_row.false)
