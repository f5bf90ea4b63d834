use Rattle.std.proofs.Common.{get_or, sym, subst, arith, Contains}
use Rattle.front_table.specs.Packed.{unpacked_all}
use Rattle.front_table.specs.Widths.{Rises}
use Rattle.front_bound.specs.inner.Placed.{WasteJoined}
use Rattle.front_table.proofs.Each.{up_to, contained_each}
use Rattle.front_table.proofs.PackedBands.{unpacked_length}
use Rattle.front_table.proofs.PoolRows.{spreads_then}
use Rattle.front_table.proofs.WidthLists.{before_wide}
use Rattle.front_bound.proofs.PlacedRows.{waste_kept}
use Rattle.front_bound.proofs.placed_bands.join_moves.Goals as goal

pub returns-then-packed_width-top-clause-joined : goal.returns-then-packed_width-top-clause-joined
returns-then-packed_width-top-clause-joined c = λ m has.
    before_wide (unpacked_all c.bands_of-bands.result.now) c.loop-at.at c.args.onward.now.stretch.now.limits.top (WasteJoined c.args.onward.now.stretch.now c.loop-at.pool c.args.onward.now.row c.args.onward.now.label.now c.args.onward.now.slack)
    (subst Rises (sym c.bands_of-bands.ensures) (c.requires.stretch.rises c.args.onward.now.row (omega (arith, c.args.onward.now.inside, c.requires.stretch.len)))) (omega (arith, c.loop-at-test.true, unpacked_length c.bands_of-bands.result.now)) (omega (arith, c.if-packed_width-top.true, c.packed_width.ensures)) c.loop-at.invariant.joined m
    (subst (λ l. Contains l m) (sym c.bands_of-bands.ensures) has)

pub loop-at-preserved : goal.loop-at-preserved
loop-at-preserved c = record {
  spreads = spreads_then c.args.onward.now.row c.args.pool.now c.loop-at.pool c.join_wasting.new.pool c.loop-at.invariant.spreads c.in_ok-join_wasting.ensures.spreads;
  joined = up_to (WasteJoined c.args.onward.now.stretch.now c.join_wasting.new.pool c.args.onward.now.row c.args.onward.now.label.now c.args.onward.now.slack) (unpacked_all c.bands_of-bands.result.now) c.loop-at.at c.unpacked_at-band.result (omega (arith, c.loop-at-test.true, unpacked_length c.bands_of-bands.result.now))
      (λ k d lt. waste_kept c.args.onward.now.stretch.now c.args.onward.now.row c.loop-at.pool c.join_wasting.new.pool c.in_ok-join_wasting.ensures.spreads c.args.onward.now.row c.args.onward.now.label.now c.args.onward.now.slack (get_or (unpacked_all c.bands_of-bands.result.now) k d) (c.loop-at.invariant.joined k d lt))
      (subst (WasteJoined c.args.onward.now.stretch.now c.join_wasting.new.pool c.args.onward.now.row c.args.onward.now.label.now c.args.onward.now.slack) c.unpacked_at-band.ensures c.in_ok-join_wasting.ensures.joined);
}

pub returns-clause-joined : goal.returns-clause-joined
returns-clause-joined c = λ m has narrow.
    contained_each (WasteJoined c.args.onward.now.stretch.now c.loop-at.pool c.args.onward.now.row c.args.onward.now.label.now c.args.onward.now.slack) (unpacked_all c.bands_of-bands.result.now) (λ k d lt. c.loop-at.invariant.joined k d (omega (arith, lt, c.loop-at-test.false, unpacked_length c.bands_of-bands.result.now))) m
    (subst (λ l. Contains l m) (sym c.bands_of-bands.ensures) has)
