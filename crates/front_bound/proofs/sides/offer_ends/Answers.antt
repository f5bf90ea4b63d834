use Rattle.std.proofs.Common.{◌+◌, sym, subst, arith}
use Rattle.front_table.specs.Levels.{to_go_at}
use Rattle.front_table.specs.Pools.{HeldAt, row_at}
use Rattle.front_table.specs.Sets.{Held}
use Rattle.front_bound.specs.Sides.{EndsHeld}
use Rattle.front_table.proofs.Each.{below_next}
use Rattle.front_table.proofs.HeldLists.{fits_none}
use Rattle.front_table.proofs.PoolRows.{spreads_same, spreads_then, spreads_from}
use Rattle.front_bound.proofs.SideLemmas.{ends_kept}
use Rattle.front_bound.proofs.sides.offer_ends.Goals as goal

pub loop-row-preserved : goal.loop-row-preserved
loop-row-preserved c = record {
  spreads = spreads_then c.args.outset.now.row c.args.sides.now c.loop-row.sides c.offer_ends_at.new.sides c.loop-row.invariant.spreads
      (spreads_from (c.loop-row.row + 1) c.args.outset.now.row c.loop-row.sides c.offer_ends_at.new.sides (omega (arith, c.loop-row-test.true)) c.in_ok-offer_ends_at.ensures.spreads);
  held = λ m from width lt begun.
      below_next (λ m. HeldAt c.args.pool.now m c.params.result.now.height width → EndsHeld c.args.outset.now.fronts.instance.now (to_go_at c.args.outset.now.fronts.levels.now m) c.args.outset.now.most c.offer_ends_at.new.sides m c.args.plate from width) c.loop-row.row
      (λ k before held. ends_kept c.args.outset.now.fronts.instance.now (to_go_at c.args.outset.now.fronts.levels.now k) c.args.outset.now.most (c.loop-row.row + 1) c.loop-row.sides c.offer_ends_at.new.sides k c.args.plate from width c.in_ok-offer_ends_at.ensures.spreads (c.loop-row.invariant.held k from width before begun held))
      (λ held. subst (λ far. EndsHeld c.args.outset.now.fronts.instance.now far c.args.outset.now.most c.offer_ends_at.new.sides c.loop-row.row c.args.plate from width) c.to_go-far.ensures
      (c.in_ok-offer_ends_at.ensures.held from width begun (subst (λ l. Held l c.params.result.now.height width) (sym c.labels.ensures) held))) m lt;
}

pub loop-row-init : goal.loop-row-init
loop-row-init c = record {
  spreads = spreads_same c.args.outset.now.row c.args.sides.now;
  held = λ m from width lt begun held. absurd (fits_none (row_at c.args.pool.now m) c.params.result.now.height width (c.low-low.ensures m lt) held);
}
