use Rattle.std.proofs.Common.{◌+◌, subst, arith}
use Rattle.front_bound.specs.inner.Clear.{EndsPlaced}
use Rattle.front_table.specs.Levels.{to_go_at}
use Rattle.front_table.specs.Pools.{row_at}
use Rattle.front_table.proofs.Each.{below_next}
use Rattle.front_table.proofs.PoolRows.{spreads_same, spreads_then, spreads_from}
use Rattle.front_bound.proofs.PlacedRows.{ends_placed_kept, ends_empty}
use Rattle.front_bound.proofs.placed_sides.offer_placed_ends.Goals as goal

pub loop-row-preserved : goal.loop-row-preserved
loop-row-preserved c = record {
  spreads = spreads_then c.args.outset.now.row c.args.sides.now c.loop-row.sides c.offer_all_placed.new.sides c.loop-row.invariant.spreads
      (spreads_from (c.loop-row.row + 1) c.args.outset.now.row c.loop-row.sides c.offer_all_placed.new.sides (omega (arith, c.loop-row-test.true)) c.in_ok-offer_all_placed.ensures.spreads);
  held = below_next (λ m. EndsPlaced c.args.outset.now.fronts.instance.now c.args.stretch.now.holes.now (to_go_at c.args.outset.now.fronts.levels.now m) c.args.outset.now.most c.offer_all_placed.new.sides m c.args.plate c.args.stretch.now.site.left (row_at c.args.pool.now m)) c.loop-row.row
      (λ k before. ends_placed_kept c.args.outset.now.fronts.instance.now c.args.stretch.now.holes.now (to_go_at c.args.outset.now.fronts.levels.now k) c.args.outset.now.most (c.loop-row.row + 1) c.loop-row.sides c.offer_all_placed.new.sides k c.args.plate c.args.stretch.now.site.left (row_at c.args.pool.now k) c.in_ok-offer_all_placed.ensures.spreads (c.loop-row.invariant.held k before))
      (subst (λ l. EndsPlaced c.args.outset.now.fronts.instance.now c.args.stretch.now.holes.now (to_go_at c.args.outset.now.fronts.levels.now c.loop-row.row) c.args.outset.now.most c.offer_all_placed.new.sides c.loop-row.row c.args.plate c.args.stretch.now.site.left l) c.labels.ensures
      (subst (λ far. EndsPlaced c.args.outset.now.fronts.instance.now c.args.stretch.now.holes.now far c.args.outset.now.most c.offer_all_placed.new.sides c.loop-row.row c.args.plate c.args.stretch.now.site.left c.labels.result.now) c.to_go-far.ensures c.in_ok-offer_all_placed.ensures.held));
}

pub loop-row-init : goal.loop-row-init
loop-row-init c = record {
  spreads = spreads_same c.args.outset.now.row c.args.sides.now;
  held = λ m lt. ends_empty c.args.outset.now.fronts.instance.now c.args.stretch.now.holes.now (to_go_at c.args.outset.now.fronts.levels.now m) c.args.outset.now.most c.args.sides.now m c.args.plate c.args.stretch.now.site.left (row_at c.args.pool.now m) (c.low-low.ensures m lt);
}
