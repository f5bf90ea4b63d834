use Rattle.std.proofs.Common.{◌≡◌, ℕ, ◌+◌, get_or, refl, subst, arith}
use Rattle.front_table.specs.declared.labels.FrontLabel.{FrontLabel}
use Rattle.front_table.specs.Sets.{Has, Fits}
use Rattle.front_bound.specs.Sides.{EndsHeld}
use Rattle.front_table.proofs.Each.{up_to}
use Rattle.front_table.proofs.HeldLists.{held_each}
use Rattle.front_table.proofs.PoolRows.{spreads_then}
use Rattle.front_bound.proofs.SideLemmas.{ends_kept}
use Rattle.front_bound.proofs.sides.offer_ends_of.Goals as goal

pub loop-begin-preserved : goal.loop-begin-preserved
loop-begin-preserved c = record {
  spreads = spreads_then (c.args.ending.now.row + 1) c.args.sides.now c.loop-begin.sides c.offer_end_of.new.sides c.loop-begin.invariant.spreads c.in_ok-offer_end_of.ensures.spreads;
  held = up_to (λ (l : FrontLabel). (from width : ℕ) → Fits l from c.args.ending.now.plate → Has c.args.strip.now.across width → EndsHeld c.args.ending.now.instance.now c.args.ending.now.far c.args.ending.now.most c.offer_end_of.new.sides c.args.ending.now.row c.args.ending.now.plate from width) c.args.begins.now c.loop-begin.begin-index _
      c.loop-begin-test.true
      (λ k d lt from width begun wide. ends_kept c.args.ending.now.instance.now c.args.ending.now.far c.args.ending.now.most (c.args.ending.now.row + 1) c.loop-begin.sides c.offer_end_of.new.sides c.args.ending.now.row c.args.ending.now.plate from width c.in_ok-offer_end_of.ensures.spreads (c.loop-begin.invariant.held k d lt from width begun wide))
      c.in_ok-offer_end_of.ensures.held;
}

pub returns-clause-held : goal.returns-clause-held
returns-clause-held c = λ from width held wide.
    held_each c.args.begins.now (λ x y. y ≡ c.args.ending.now.plate → EndsHeld c.args.ending.now.instance.now c.args.ending.now.far c.args.ending.now.most c.loop-begin.sides c.args.ending.now.row c.args.ending.now.plate x width)
    (λ k d lt x y fits same. c.loop-begin.invariant.held k d (omega (arith, lt, c.loop-begin-test.false)) x width (fits.0, subst (Has (get_or c.args.begins.now k d).across) same fits.1) wide) from c.args.ending.now.plate held refl
