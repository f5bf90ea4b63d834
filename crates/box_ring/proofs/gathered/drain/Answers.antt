use Rattle.std.proofs.Common.{rules, [], arith, ap}
use Rattle.box_ring.specs.inner.Deques.{views, view_of}
use Rattle.box_ring.proofs.Drained.{views_snoc, whole_off, left_off, whole_back, nothing_left, framed_off, drains}
use Rattle.shared_best.proofs.Views.{empty_of_length}
use Rattle.box_ring.proofs.gathered.drain.Goals as goal

pub pop-requires-in-Some : goal.pop-requires-in-Some
pop-requires-in-Some c =
    let o = whole_off _ _ _ (views_snoc c.loop-last.deques.items c.pop.new.self.items c.in-Some.last c.in-Some.ensures.items) c.loop-last.invariant.whole in let p = o.1 in omega arith

pub returns-in-Some-pop-clause-whole : goal.returns-in-Some-pop-clause-whole
returns-in-Some-pop-clause-whole c =
    let o = whole_off _ _ _ (views_snoc c.loop-last.deques.items c.pop.new.self.items c.in-Some.last c.in-Some.ensures.items) c.loop-last.invariant.whole in
    whole_back _ _ _ _ c.in-Some-pop.bx (views_snoc c.push_reserved.new.self.items c.pop.new.self.items c.pop-in-Some.new.deque c.push_reserved.ensures.items) o.0 o.1 c.in-Some-pop.ensures.rule

pub returns-in-Some-pop-clause-left : goal.returns-in-Some-pop-clause-left
returns-in-Some-pop-clause-left c = let i = c.loop-last.invariant in
    drains (views c.args.deques.now.items) _ _ (views c.pop.new.self.items) (view_of c.in-Some.last) (view_of c.pop-in-Some.new.deque) c.in-Some-pop.bx i.whole
    (views_snoc c.loop-last.deques.items c.pop.new.self.items c.in-Some.last c.in-Some.ensures.items)
    (views_snoc c.push_reserved.new.self.items c.pop.new.self.items c.pop-in-Some.new.deque c.push_reserved.ensures.items) c.in-Some-pop.ensures.rule i.left i.framed

pub loop-last-preserved : goal.loop-last-preserved
loop-last-preserved c =
    let e = views_snoc c.loop-last.deques.items c.pop.new.self.items c.in-Some.last c.in-Some.ensures.items in let i = c.loop-last.invariant in
    let o = whole_off _ _ _ e i.whole in record {
      whole = o.0;
      left = λ xs left. i.left xs (left_off _ _ _ e c.in-None.ensures.rule.1 o.1 xs left);
      framed = λ f a. (framed_off f _ _ _ e (i.framed f a)).0;
    }

pub returns-clause-left : goal.returns-clause-left
returns-clause-left c = c.loop-last.invariant.left [] (nothing_left _ (ap views (empty_of_length c.loop-last.deques.items (search rules))))
