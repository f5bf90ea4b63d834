use Rattle.std.proofs.Common.{get_or}
use Rattle.front_bound.specs.inner.Placed.{CellJoined}
use Rattle.front_table.proofs.Each.{up_to}
use Rattle.front_table.proofs.PoolRows.{spreads_then, spreads_from, leads_below}
use Rattle.front_bound.proofs.PlacedRows.{cell_joined_kept}
use Rattle.front_bound.proofs.placed_cells.join_cells.Goals as goal

pub loop-cell-preserved : goal.loop-cell-preserved
loop-cell-preserved c = record {
  spreads =
      spreads_then c.args.row c.args.space.now.pool c.loop-cell.space.pool c.join_cell.new.space.pool c.loop-cell.invariant.spreads
      (spreads_from _ c.args.row c.loop-cell.space.pool c.join_cell.new.space.pool (leads_below c.args.cells.now c.args.row c.loop-cell.cell-index _ c.requires.down c.loop-cell-test.true) c.in_ok-join_cell.ensures.spreads);
  joined = up_to (CellJoined c.args.stretch.now c.args.sought.now c.join_cell.new.space.pool c.args.label.now) c.args.cells.now c.loop-cell.cell-index _ c.loop-cell-test.true
      (λ k d lt. cell_joined_kept c.args.stretch.now c.args.sought.now _ c.loop-cell.space.pool c.join_cell.new.space.pool c.args.label.now (get_or c.args.cells.now k d) c.in_ok-join_cell.ensures.spreads (c.loop-cell.invariant.joined k d lt)) c.in_ok-join_cell.ensures.joined;
}
