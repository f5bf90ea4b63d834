use Rattle.std.proofs.Common.{ℕ, get_or, subst}
use Rattle.front_table.specs.Pools.{HeldAt}
use Rattle.front_table.proofs.Each.{up_to}
use Rattle.front_table.proofs.PoolRows.{kept_at, spreads_then}
use Rattle.front_bound.specs.declared.side_lanes.SideLane.{SideLane}
use Rattle.front_bound.proofs.side_lanes.join_lanes.Goals as goal

pub loop-lane-preserved : goal.loop-lane-preserved
loop-lane-preserved c =
    let Joined : SideLane → Type 0 = λ lane. (n x y : ℕ) → HeldAt lane.offered n x y → HeldAt c.join_sides.new.sides n x y in
    record {
      spreads = spreads_then c.args.below c.args.sides.now c.loop-lane.sides c.join_sides.new.sides c.loop-lane.invariant.spreads c.in_ok-join_sides.ensures.spreads;
      held = up_to Joined c.args.lanes.now c.loop-lane.lane-index c.lane-item.result c.loop-lane-test.true
          (λ i d lt n x y held. kept_at c.args.below c.loop-lane.sides c.join_sides.new.sides c.in_ok-join_sides.ensures.spreads n x y (c.loop-lane.invariant.held i d lt n x y held))
          (subst Joined c.lane-item.is c.in_ok-join_sides.ensures.held);
    }
