use Rattle.std.proofs.Common.{rules, ap, ◌∙◌, arith}
use Rattle.crossbeam_deque.specs.Handles.{worker_deque, worker_view}
use Rattle.box_ring.specs.Neighbours.{deque_of, tally_of}
use Rattle.box_ring.specs.inner.Deques.{views, view_of}
use Rattle.shared_best.proofs.Views.{empty_of_length}
use Rattle.box_ring.proofs.Rows.{longer}
use Rattle.box_ring.proofs.Drained.{views_snoc}
use Rattle.box_ring.proofs.Joined.{completes_next, completes_last, joins_first, joins_next, whole_last, gathers_last}
use Rattle.box_ring.proofs.rings.collect.Goals as goal

pub loop-arm-init : goal.loop-arm-init
loop-arm-init c =
    let a = c.apart-current.ensures in let e = c.in-Some.ensures.last in let l = longer _ _ _ e in record {
      joins = joins_first _ c.pop.new.self.items c.in-Some.last _ _ _ _ (views c.reserve.new.self.items) e a.own.0 a.own.1 a.other.0 a.other.1 a.framed (ap views (c.reserve.ensures.items ∙ c.new-deques.ensures.items)) c.requires;
      room = search rules;
    }

pub whole-requires : goal.whole-requires
whole-requires c =
    completes_next (deque_of c.apart-current.result.1) c.loop-arm.arms.items c.pop-in-loop-arm.new.self.items c.in-Some-pop.arm (worker_deque c.loop-arm.current) (worker_view c.loop-arm.current)
    (worker_view c.loop-arm.current) _ c.in-Some-pop.ensures.last c.apart-own.ensures.other.0 c.loop-arm.invariant.joins.waits

pub loop-arm-preserved : goal.loop-arm-preserved
loop-arm-preserved c =
    let i = c.loop-arm.invariant in let a = c.apart-own.ensures in let w = c.whole.ensures in let e = c.in-Some-pop.ensures.last in let l = longer _ _ _ e in record {
      joins = joins_next c.args.arms.items c.loop-arm.arms.items c.pop-in-loop-arm.new.self.items c.in-Some-pop.arm (worker_deque c.loop-arm.current) _ (worker_view c.loop-arm.current) _ (view_of c.whole.result) (tally_of c.apart-own.result.1) _ _
          (views c.loop-arm.deques.items) (views c.push_reserved.new.self.items) e a.own.0 a.own.1 a.other.1 a.framed (views_snoc _ _ _ c.push_reserved.ensures.items) w.view w.parts w.rest i.joins;
      room = (let b = i.room in let d = c.push_reserved.ensures.len in let k = c.push_reserved.ensures.capacity in omega arith);
    }

pub whole-requires-2 : goal.whole-requires-2
whole-requires-2 c =
    completes_last (deque_of c.apart-current.result.1) c.loop-arm.arms.items (worker_deque c.loop-arm.current) (worker_view c.loop-arm.current) (empty_of_length _ (search rules)) c.loop-arm.invariant.joins.waits

pub returns-clause-whole : goal.returns-clause-whole
returns-clause-whole c = let w = c.whole-2.ensures in
    whole_last c.args.arms.items c.loop-arm.arms.items (worker_deque c.loop-arm.current) (worker_view c.loop-arm.current) (view_of c.whole-2.result) _ _ (views c.loop-arm.deques.items) _
    (views_snoc _ _ _ c.push_reserved-2.ensures.items) w.parts w.rest c.loop-arm.invariant.joins

pub returns-clause-gathers : goal.returns-clause-gathers
returns-clause-gathers c = let w = c.whole-2.ensures in
    gathers_last c.args.arms.items c.loop-arm.arms.items (worker_deque c.loop-arm.current) (worker_view c.loop-arm.current) (view_of c.whole-2.result) _ _ (views c.loop-arm.deques.items) _
    (empty_of_length _ (search rules)) (views_snoc _ _ _ c.push_reserved-2.ensures.items) w.view w.parts w.rest c.loop-arm.invariant.joins
