use Rattle.std.proofs.Common.{ℕ, arith}
use Rattle.front_table.specs.declared.labels.FrontLabel.{FrontLabel}
use Rattle.front_table.specs.Sets.{Fits, Held}
use Rattle.front_table.proofs.Each.{up_to}
use Rattle.front_table.proofs.HeldLists.{held_each, keeps_held}
use Rattle.front_table.proofs.bands.offer_bands.Goals as goal

pub loop-label-preserved : goal.loop-label-preserved
loop-label-preserved c =
    up_to (λ (l : FrontLabel). (x y : ℕ) → Fits l x y → Held c.offer.new.labels.items y x) c.args.labels.now c.loop-label.label-index _ c.loop-label-test.true
    (λ k d lt x y fits. keeps_held c.loop-label.thinned.items c.offer.new.labels.items y x c.in_ok-offer.ensures.kept (c.loop-label.invariant k d lt x y fits))
    (λ x y fits. c.in_ok-offer.ensures.held y x (c.band_of.ensures.sizes x y fits))

pub returns : goal.returns
returns c = held_each c.args.labels.now (λ x y. Held c.loop-label.thinned.items y x) (λ k d lt. c.loop-label.invariant k d (omega (arith, lt, c.loop-label-test.false)))
