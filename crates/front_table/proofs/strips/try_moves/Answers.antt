use Rattle.std.proofs.Common.{get_or, subst, arith}
use Rattle.front_table.specs.Packed.{unpacked_all}
use Rattle.front_table.specs.Tries.{BandTried}
use Rattle.front_table.proofs.Each.{up_to, contained_each}
use Rattle.front_table.proofs.PackedBands.{unpacked_length}
use Rattle.front_table.proofs.PoolRows.{spreads_then}
use Rattle.front_table.proofs.StripTries.{band_kept}
use Rattle.front_table.proofs.WidthLists.{before_wide}
use Rattle.front_table.proofs.strips.try_moves.Goals as goal

pub returns-then-packed_width-top-clause-tried : goal.returns-then-packed_width-top-clause-tried
returns-then-packed_width-top-clause-tried c =
    let e = c.args.extension.now in
    let bands = e.view.bands.now in
    before_wide (unpacked_all bands) c.loop-at.at e.search.now.limits.top (BandTried e.search.now.fronts.rows.now e.search.now.fronts.levels.now e.search.now.limits c.loop-at.pool e.view.row e.view.below e.label.now e.slack) c.requires.rises
    (omega (arith, c.loop-at-test.true, unpacked_length bands)) (omega (arith, c.if-packed_width-top.true, c.packed_width.ensures)) c.loop-at.invariant.tried

pub loop-at-preserved : goal.loop-at-preserved
loop-at-preserved c =
    let e = c.args.extension.now in
    let bands = e.view.bands.now in
    let P = BandTried e.search.now.fronts.rows.now e.search.now.fronts.levels.now e.search.now.limits c.try_move.new.pool e.view.row e.view.below e.label.now e.slack in
    record {
      spreads = spreads_then e.view.below c.args.pool.now c.loop-at.pool c.try_move.new.pool c.loop-at.invariant.spreads c.in_ok-try_move.ensures.spreads;
      tried = up_to P (unpacked_all bands) c.loop-at.at c.unpacked_at-band.result (omega (arith, c.loop-at-test.true, unpacked_length bands))
          (λ k d lt. band_kept _ _ _ e.view.below c.loop-at.pool c.try_move.new.pool e.view.row e.view.below e.label.now e.slack (get_or (unpacked_all bands) k d) c.in_ok-try_move.ensures.spreads (c.loop-at.invariant.tried k d lt))
          (subst P c.unpacked_at-band.ensures c.in_ok-try_move.ensures.tried);
    }

pub returns-clause-tried : goal.returns-clause-tried
returns-clause-tried c = λ m has narrow.
    let e = c.args.extension.now in
    let bands = e.view.bands.now in
    contained_each (BandTried e.search.now.fronts.rows.now e.search.now.fronts.levels.now e.search.now.limits c.loop-at.pool e.view.row e.view.below e.label.now e.slack) (unpacked_all bands)
    (λ k d lt. c.loop-at.invariant.tried k d (omega (arith, lt, c.loop-at-test.false, unpacked_length bands))) m has
