use Rattle.std.proofs.Common.{rules, refl, ap, ◌≡◌, ◌∙◌, true, [], ◌∷◌, ◌++◌}
use Rattle.std.specs.Prelude.{Some}
use Rattle.box_ring.specs.declared.tally.Tally.{Tally}
use Rattle.crossbeam_deque.specs.Handles.{worker_deque, worker_view, stealer_deque, view}
use Rattle.box_ring.specs.Tallies.{tally}
use Rattle.box_ring.specs.Arms.{ArmState, new_arm}
use Rattle.box_ring.proofs.Rows.{longer, row_links, row_first, row_closed, row_frame, row_fresh, new_fresh}
use Rattle.box_ring.proofs.rings.ring.Goals as goal

pub loop-preserved : goal.loop-preserved
loop-preserved c =
    let i = c.loop.invariant in let n = c.in_ok-neighbour.neighbour in let xs = c.loop.arms.items in let ys = c.append-in-loop.new.run.items in
    let own = worker_deque c.loop.own in let v = worker_view c.loop.own in let now = worker_deque c.of-in-loop.new.deque in let next = Some (stealer_deque n.thief) in
    let d : stealer_deque n.thief ≡ worker_deque c.of-in-loop.new.deque = search rules in
    let t : view n.pass ≡ tally 1 true c.args.frame [] [] = search rules in
    let e = c.in_ok-append-2.ensures.ok ∙ ap (λ (a : ArmState). xs ++ a ∷ []) c.new-in-loop.ensures in
    let l = longer _ _ _ e in record {
      links = row_links xs ys own now v (view n.pass) next e (ap Some d) (ap (λ (k : Tally). k.parts) i.own_is) i.links;
      own_is = search rules;
      first_is = i.first_is;
      start = row_first xs ys own now _ v (view n.pass) next e i.start;
      count = search rules;
      frames = row_frame c.args.frame xs ys (new_arm own v next (view n.pass)) e i.frames (ap (λ (k : Tally). k.frame) i.own_is);
      fresh = row_fresh xs ys (new_arm own v next (view n.pass)) e i.fresh (new_fresh own v (view n.pass) next c.args.frame i.own_is t);
    }

pub returns-clause-ring : goal.returns-clause-ring
returns-clause-ring c =
    let i = c.loop.invariant in let n = c.in_ok-first.first in let xs = c.loop.arms.items in
    let e = c.in_ok-append-3.ensures.ok ∙ ap (λ (a : ArmState). xs ++ a ∷ []) c.new-2.ensures in
    row_closed xs c.append-2.new.run.items (worker_deque c.loop.own) (stealer_deque n.thief) (worker_view c.loop.own) (view n.pass) (Some (stealer_deque n.thief)) e refl
    (ap (λ (k : Tally). k.parts) i.own_is) (search rules) i.links i.start

pub returns-clause-frame : goal.returns-clause-frame
returns-clause-frame c =
    let i = c.loop.invariant in let n = c.in_ok-first.first in let xs = c.loop.arms.items in
    let e = c.in_ok-append-3.ensures.ok ∙ ap (λ (a : ArmState). xs ++ a ∷ []) c.new-2.ensures in
    row_frame c.args.frame xs c.append-2.new.run.items (new_arm (worker_deque c.loop.own) (worker_view c.loop.own) (Some (stealer_deque n.thief)) (view n.pass)) e i.frames (ap (λ (k : Tally). k.frame) i.own_is)

pub returns-clause-fresh : goal.returns-clause-fresh
returns-clause-fresh c =
    let i = c.loop.invariant in let n = c.in_ok-first.first in let xs = c.loop.arms.items in
    let d = worker_deque c.loop.own in let v = worker_view c.loop.own in let next = Some (stealer_deque n.thief) in
    let e = c.in_ok-append-3.ensures.ok ∙ ap (λ (a : ArmState). xs ++ a ∷ []) c.new-2.ensures in
    row_fresh xs c.append-2.new.run.items (new_arm d v next (view n.pass)) e i.fresh (new_fresh d v (view n.pass) next c.args.frame i.own_is i.first_is)
