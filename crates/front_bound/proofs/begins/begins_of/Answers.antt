use Rattle.std.proofs.Common.{ℕ, arith}
use Rattle.front_table.specs.declared.labels.FrontLabel.{FrontLabel}
use Rattle.front_table.specs.Sets.{Fits, Held}
use Rattle.front_bound.specs.Sides.{NextHeld}
use Rattle.front_table.proofs.Each.{up_to}
use Rattle.front_table.proofs.HeldLists.{held_each, keeps_held}
use Rattle.front_bound.proofs.begins.begins_of.Goals as goal

pub loop-side-preserved : goal.loop-side-preserved
loop-side-preserved c = record {
  own = up_to (λ (l : FrontLabel). (from plate : ℕ) → Fits l from plate → Held c.offer_begin.new.begins.items from plate) c.args.sides.now c.loop-side.side-index _ c.loop-side-test.true
      (λ k d lt from plate fits. keeps_held c.loop-side.begins.items c.offer_begin.new.begins.items from plate c.in_ok-offer_begin.ensures.kept (c.loop-side.invariant.own k d lt from plate fits)) c.in_ok-offer_begin.ensures.own;
  next = up_to (λ (l : FrontLabel). (from plate : ℕ) → Fits l from plate → NextHeld c.args.instance.now c.args.far c.args.most c.offer_begin.new.begins.items from plate) c.args.sides.now c.loop-side.side-index _ c.loop-side-test.true
      (λ k d lt from plate fits few gap near. keeps_held c.loop-side.begins.items c.offer_begin.new.begins.items 0 _ c.in_ok-offer_begin.ensures.kept (c.loop-side.invariant.next k d lt from plate fits few gap near)) c.in_ok-offer_begin.ensures.next;
}

pub returns-clause-own : goal.returns-clause-own
returns-clause-own c = held_each c.args.sides.now (Held c.loop-side.begins.items) (λ k d lt. c.loop-side.invariant.own k d (omega (arith, lt, c.loop-side-test.false)))

pub returns-clause-next : goal.returns-clause-next
returns-clause-next c =
    held_each c.args.sides.now (NextHeld c.args.instance.now c.args.far c.args.most c.loop-side.begins.items) (λ k d lt. c.loop-side.invariant.next k d (omega (arith, lt, c.loop-side-test.false)))
