use Rattle.std.proofs.Common.{◌≡◌, ℕ, ◌+◌, get_or, refl, subst, arith}
use Rattle.front_table.specs.declared.labels.FrontLabel.{FrontLabel}
use Rattle.front_table.specs.Sets.{Has, Fits, Held}
use Rattle.front_bound.specs.Sides.{EndsHeld}
use Rattle.front_table.proofs.Each.{up_to}
use Rattle.front_table.proofs.HeldLists.{held_each}
use Rattle.front_table.proofs.PoolRows.{spreads_then}
use Rattle.front_bound.proofs.SideLemmas.{ends_kept}
use Rattle.front_bound.proofs.sides.offer_ends_at.Goals as goal

pub loop-strip-preserved : goal.loop-strip-preserved
loop-strip-preserved c = record {
  spreads = spreads_then (c.args.ending.now.row + 1) c.args.sides.now c.loop-strip.sides c.offer_ends_by.new.sides c.loop-strip.invariant.spreads c.in_ok-offer_ends_by.ensures.spreads;
  held = up_to (λ (l : FrontLabel). (from width : ℕ) → Held c.args.begins.now from c.args.ending.now.plate → Fits l c.args.height width → EndsHeld c.args.ending.now.instance.now c.args.ending.now.far c.args.ending.now.most c.offer_ends_by.new.sides c.args.ending.now.row c.args.ending.now.plate from width) c.args.strips.now
      c.loop-strip.strip-index _ c.loop-strip-test.true
      (λ k d lt from width begun fits. ends_kept c.args.ending.now.instance.now c.args.ending.now.far c.args.ending.now.most (c.args.ending.now.row + 1) c.loop-strip.sides c.offer_ends_by.new.sides c.args.ending.now.row c.args.ending.now.plate from width c.in_ok-offer_ends_by.ensures.spreads (c.loop-strip.invariant.held k d lt from width begun fits))
      c.in_ok-offer_ends_by.ensures.held;
}

pub returns-clause-held : goal.returns-clause-held
returns-clause-held c = λ from width begun held.
    held_each c.args.strips.now (λ x y. x ≡ c.args.height → EndsHeld c.args.ending.now.instance.now c.args.ending.now.far c.args.ending.now.most c.loop-strip.sides c.args.ending.now.row c.args.ending.now.plate from y)
    (λ k d lt x y fits same. c.loop-strip.invariant.held k d (omega (arith, lt, c.loop-strip-test.false)) from y begun (subst (Has (get_or c.args.strips.now k d).along) same fits.0, fits.1)) c.args.height width held refl
