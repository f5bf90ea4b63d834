use Rattle.front_table.specs.Levels.{to_go_at}
use Rattle.front_bound.proofs.LaneSides.{rows_next}
use Rattle.front_bound.proofs.side_lanes.handle_rows.Goals as goal

pub loop-row-preserved : goal.loop-row-preserved
loop-row-preserved c =
    let level = c.args.level.now in
    record {
      room = c.in_ok-handle_own.ensures.room;
      offered = rows_next level.fronts.instance.now level.fronts.rows.now (to_go_at level.fronts.levels.now) level.most level.first level.lanes c.args.number level.sides.now c.loop-row.lane.offered c.handle_own.new.lane.offered c.loop-row.row c.in_ok-handle_own.ensures.spreads c.loop-row.invariant.offered c.in_ok-handle_own.ensures.offered;
    }
