use Rattle.std.proofs.Common.{◌+◌, [], ◌∷◌, get_or, arith}
use Rattle.front_table.specs.declared.labels.FrontLabel.{FrontLabel}
use Rattle.front_bound.specs.inner.Clear.{EndsPlaced}
use Rattle.front_table.proofs.Each.{up_to}
use Rattle.front_table.proofs.PoolRows.{spreads_then}
use Rattle.front_bound.proofs.PlacedRows.{ends_placed_kept, ends_of_each}
use Rattle.front_bound.proofs.placed_sides.offer_all_placed.Goals as goal

pub loop-strip-preserved : goal.loop-strip-preserved
loop-strip-preserved c = record {
  spreads = spreads_then (c.args.ending.now.row + 1) c.args.sides.now c.loop-strip.sides c.offer_placed.new.sides c.loop-strip.invariant.spreads c.in_ok-offer_placed.ensures.spreads;
  held = up_to (λ (l : FrontLabel). EndsPlaced c.args.ending.now.instance.now c.args.holes.now c.args.ending.now.far c.args.ending.now.most c.offer_placed.new.sides c.args.ending.now.row c.args.ending.now.plate c.args.begin.now (l ∷ [])) c.args.strips.now c.loop-strip.strip-index _ c.loop-strip-test.true
      (λ k d lt. ends_placed_kept c.args.ending.now.instance.now c.args.holes.now c.args.ending.now.far c.args.ending.now.most (c.args.ending.now.row + 1) c.loop-strip.sides c.offer_placed.new.sides c.args.ending.now.row c.args.ending.now.plate c.args.begin.now (get_or c.args.strips.now k d ∷ []) c.in_ok-offer_placed.ensures.spreads (c.loop-strip.invariant.held k d lt))
      c.in_ok-offer_placed.ensures.held;
}

pub returns-clause-held : goal.returns-clause-held
returns-clause-held c =
    ends_of_each c.args.ending.now.instance.now c.args.holes.now c.args.ending.now.far c.args.ending.now.most c.loop-strip.sides c.args.ending.now.row c.args.ending.now.plate c.args.begin.now c.args.strips.now (λ k d lt. c.loop-strip.invariant.held k d (omega (arith, lt, c.loop-strip-test.false)))
