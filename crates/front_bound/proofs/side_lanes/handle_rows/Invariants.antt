use Rattle.front_bound.specs.inner.SideLanes.{HasRoom, OwnOffered}
use Rattle.front_bound.proofs.side_lanes.handle_rows.Given as goal

abbrev pub invariant-loop-row : goal.invariant-loop-row
invariant-loop-row l = record {
  room : HasRoom l.level.fronts.rows.now l.lane;
  offered : OwnOffered l.level l.number l.lane l.row;
}
