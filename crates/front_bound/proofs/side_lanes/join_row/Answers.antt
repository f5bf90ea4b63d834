use Rattle.std.proofs.Common.{ℕ, ◌+◌, arith}
use Rattle.front_table.specs.declared.labels.FrontLabel.{FrontLabel}
use Rattle.front_table.specs.Pools.{HeldAt}
use Rattle.front_table.specs.Sets.{Fits}
use Rattle.front_table.proofs.Each.{up_to}
use Rattle.front_table.proofs.HeldLists.{held_each}
use Rattle.front_table.proofs.PoolRows.{kept_at, spreads_then}
use Rattle.front_bound.proofs.side_lanes.join_row.Goals as goal

pub loop-side-preserved : goal.loop-side-preserved
loop-side-preserved c = record {
  spreads = spreads_then (c.args.row + 1) c.args.sides.now c.loop-side.sides c.offer.new.self c.loop-side.invariant.spreads c.in_ok-offer.ensures.spreads;
  held = up_to (λ (l : FrontLabel). (x y : ℕ) → Fits l x y → HeldAt c.offer.new.self c.args.row x y) c.args.offered.now c.loop-side.side-index _ c.loop-side-test.true
      (λ k d lt x y fits. kept_at (c.args.row + 1) c.loop-side.sides c.offer.new.self c.in_ok-offer.ensures.spreads c.args.row x y (c.loop-side.invariant.held k d lt x y fits)) c.in_ok-offer.ensures.held;
}

pub returns-clause-held : goal.returns-clause-held
returns-clause-held c = held_each c.args.offered.now (HeldAt c.loop-side.sides c.args.row) (λ k d lt. c.loop-side.invariant.held k d (omega (arith, lt, c.loop-side-test.false)))
