use Rattle.std.proofs.Common.{rules, ◌≡◌, ◌∷◌, ◌++◌, ◌≤◌, List, [], append-nil, inl, refl, sym, ap, ◌∙◌, subst, arith, All}
use Rattle.glass_base.specs.Run.{Listed}
use Rattle.plan_box.specs.declared.frame.Frame.{Frame}
use Rattle.plan_box.specs.Frames.{frame_of}
use Rattle.plan_box.specs.Ranges.{PlainBox}
use Rattle.cert_log.specs.declared.history.Left.{Left}
use Rattle.cert_log.specs.Lawful.{no_loss}
use Rattle.box_ring.specs.Arms.{frame}
use Rattle.box_ring.proofs.Rows.{stays_none, stays_twice}
use Rattle.box_workers.specs.Works.{left_open}
use Rattle.box_workers.specs.inner.Rounds.{BreaksOff, Midway, Moves, Stops, Turns}
use Rattle.box_workers.proofs.Progress.{few_push}
use Rattle.box_workers.proofs.Worked.{lost_at, lost_between, lost_spent, worked_none, when_err, worked_more, worked_spent, new_tickets, draws_one, may_draw}
use Rattle.box_workers.proofs.Traffic.{midway_none, midway_idle, midway_more, traffic_idle, traffic_left, rests_spent}
use Rattle.box_workers.proofs.working.work_at.Goals as goal

pub returns-in_err-reserve-clause-lost : goal.returns-in_err-reserve-clause-lost
returns-in_err-reserve-clause-lost g c =
    when_err _ (lost_between c.args.desk.now.ground.instance.now c.args.desk.now.shared.now c.args.seat.now c.args.seat.now c.args.hand.now _ []
    (worked_none c.args.desk.now.ground.instance.now c.args.desk.now.shared.now c.args.seat.now c.args.hand.now _ c.requires.seat (record { worker = refl; log = refl; plan = refl; loss = refl })) c.reserve.ensures.items)

pub returns-in_err-handle_at_hand-in-Some-clause-lost : goal.returns-in_err-handle_at_hand-in-Some-clause-lost
returns-in_err-handle_at_hand-in-Some-clause-lost g c =
    let i = c.loop-arm.invariant.runs in let x = c.in-Some.bx in
    let off : BreaksOff c.args.desk.now.ground.instance.now c.args.desk.now.shared.now x c.loop-arm.seat c.handle_at_hand.new.seat c.loop-arm.hand c.handle_at_hand.new.hand = search rules in
    let small : c.args.hand.now.loss ≤ no_loss = search rules in
    let of : x.frame ≡ frame_of c.args.desk.now.ground.instance.now = c.in-Some.ensures.frame ∙ c.loop-arm.invariant.ring in
    let some = may_draw c.args.desk.now.shared.now.budget c.loop-arm.seat.view.allowance c.args.seat.now.view.allowance i.0 i.2 i.1.allowance c.requires.allowance in
    when_err _ (lost_at c.args.desk.now.ground.instance.now c.args.desk.now.shared.now c.args.seat.now c.loop-arm.seat c.args.hand.now c.loop-arm.hand i.0 i.1 c.loop-arm.invariant.left x c.handle_at_hand.new.seat c.handle_at_hand.new.hand off small of c.handle_at_hand.ensures.seat some)

pub returns-in_err-push_all-in-Some-clause-lost : goal.returns-in_err-push_all-in-Some-clause-lost
returns-in_err-push_all-in-Some-clause-lost g c =
    let i = c.loop-arm.invariant.runs in let x = c.in-Some.bx in
    let stops : Stops c.args.desk.now.ground.instance.now c.args.desk.now.shared.now x c.loop-arm.seat c.handle_at_hand.new.seat c.loop-arm.hand c.handle_at_hand.new.hand × (c.handle_at_hand.new.at_hand.items ≡ c.offer.new.at_hand.items) = search rules in
    let some = may_draw c.args.desk.now.shared.now.budget c.loop-arm.seat.view.allowance c.args.seat.now.view.allowance i.0 i.2 i.1.allowance c.requires.allowance in
    when_err _ (lost_spent c.args.desk.now.ground.instance.now c.args.desk.now.shared.now c.args.seat.now c.loop-arm.seat c.args.hand.now c.loop-arm.hand i.0 i.1 c.loop-arm.invariant.left x c.handle_at_hand.new.seat c.handle_at_hand.new.hand stops.0 c.handle_at_hand.ensures.seat some)

pub loop-arm-init : goal.loop-arm-init
loop-arm-init g c = record {
  runs = ([], worked_none c.args.desk.now.ground.instance.now c.args.desk.now.shared.now c.args.seat.now c.args.hand.now _ c.requires.seat (record { worker = refl; log = refl; plan = refl; loss = refl }), inl refl, subst (Midway c.args.desk.now.starts c.args.arm.now c.args.arm.now []) (sym c.new-at_hand.ensures.items) (midway_none c.args.desk.now.starts c.args.arm.now));
  frames = search rules;
  left = c.reserve.ensures.items;
  room = search rules;
  leasts = c.requires.leasts;
  scratch = c.requires.scratch;
  ring = c.requires.ring;
  stays = stays_none c.args.arm.now;
}

pub returns-then-not-branch-clause-works : goal.returns-then-not-branch-clause-works
returns-then-not-branch-clause-works g c =
    let i = c.loop-arm.invariant.runs in let x = c.in-Some.bx in
    let st : Stops c.args.desk.now.ground.instance.now c.args.desk.now.shared.now x c.loop-arm.seat c.handle_at_hand.new.seat c.loop-arm.hand c.handle_at_hand.new.hand × (c.handle_at_hand.new.at_hand.items ≡ c.offer.new.at_hand.items) = search rules in
    let found : Moves c.loop-arm.at_hand.items c.find.new.at_hand.items (x ∷ []) c.loop-arm.arm c.find.new.arm = c.in-Some.ensures.moves in
    let offered : Moves c.find.new.at_hand.items c.offer.new.at_hand.items [] c.find.new.arm c.offer.new.arm = search rules in
    let pushed : Moves c.offer.new.at_hand.items [] [] c.offer.new.arm c.push_all.new.arm = subst (λ (ws : List PlainBox). Moves ws [] [] c.offer.new.arm c.push_all.new.arm) st.1 (search rules) in
    let some = may_draw c.args.desk.now.shared.now.budget c.loop-arm.seat.view.allowance c.args.seat.now.view.allowance i.0 i.2 i.1.allowance c.requires.allowance in
    record {
      events = i.0;
      spent = st.0.ticket ∷ [];
      left = x ∷ [];
      worked = worked_spent c.args.desk.now.ground.instance.now c.args.desk.now.shared.now c.args.seat.now c.loop-arm.seat c.handle_at_hand.new.seat c.args.hand.now c.loop-arm.hand c.handle_at_hand.new.hand i.0 i.1 st.0.ticket st.0.seat st.0.leaves.like c.handle_at_hand.ensures.seat some;
      left_is = st.0.leaves.left ∙ ap (λ (ls : List Left). ls ++ left_open c.args.desk.now.ground.instance.now (x ∷ [])) c.loop-arm.invariant.left;
      traffic = traffic_left c.args.desk.now.starts c.args.arm.now c.loop-arm.arm c.find.new.arm i.0 c.loop-arm.at_hand.items i.3 c.offer.new.arm c.find.new.at_hand.items c.offer.new.at_hand.items x found offered c.push_all.new.arm pushed;
      rests = rests_spent c.args.desk.now.shared.now.budget st.0.ticket x c.push_all.new.arm.misses st.0.spent;
    }

pub loop-arm-smaller : goal.loop-arm-smaller
loop-arm-smaller g c =
    let i = c.loop-arm.invariant.runs in let x = c.in-Some.bx in
    let d : Turns c.args.desk.now.ground.instance.now c.args.desk.now.shared.now c.args.desk.now.starts x c.loop-arm.seat c.handle_at_hand.new.seat c.loop-arm.hand c.handle_at_hand.new.hand c.offer.new.at_hand.items c.handle_at_hand.new.at_hand.items = search rules in
    let some = may_draw c.args.desk.now.shared.now.budget c.loop-arm.seat.view.allowance c.args.seat.now.view.allowance i.0 i.2 i.1.allowance c.requires.allowance in
    let o = draws_one c.args.desk.now.ground.instance.now c.args.desk.now.shared.now x c.loop-arm.seat c.handle_at_hand.new.seat c.loop-arm.hand c.handle_at_hand.new.hand d.event d.handles some in omega arith

pub loop-arm-preserved : goal.loop-arm-preserved
loop-arm-preserved g c =
    let i = c.loop-arm.invariant.runs in let x = c.in-Some.bx in
    let d : Turns c.args.desk.now.ground.instance.now c.args.desk.now.shared.now c.args.desk.now.starts x c.loop-arm.seat c.handle_at_hand.new.seat c.loop-arm.hand c.handle_at_hand.new.hand c.offer.new.at_hand.items c.handle_at_hand.new.at_hand.items = search rules in
    let found : Moves c.loop-arm.at_hand.items c.find.new.at_hand.items (x ∷ []) c.loop-arm.arm c.find.new.arm = c.in-Some.ensures.moves in
    let offered : Moves c.find.new.at_hand.items c.offer.new.at_hand.items [] c.find.new.arm c.offer.new.arm = search rules in
    let small : c.args.hand.now.loss ≤ no_loss = search rules in
    let of : x.frame ≡ frame_of c.args.desk.now.ground.instance.now = c.in-Some.ensures.frame ∙ c.loop-arm.invariant.ring in
    let some = may_draw c.args.desk.now.shared.now.budget c.loop-arm.seat.view.allowance c.args.seat.now.view.allowance i.0 i.2 i.1.allowance c.requires.allowance in
    let ring : frame c.offer.new.arm ≡ frame_of c.args.desk.now.ground.instance.now = c.offer.ensures.stays.frame ∙ c.find.ensures.stays.frame ∙ c.loop-arm.invariant.ring in
    let framed : All (λ (y : PlainBox). y.frame ≡ frame_of c.args.desk.now.ground.instance.now) c.handle_at_hand.new.at_hand.items = search rules in
    record {
      runs = (
        i.0 ++ d.event ∷ [],
        worked_more c.args.desk.now.ground.instance.now c.args.desk.now.shared.now c.args.seat.now c.loop-arm.seat c.handle_at_hand.new.seat c.args.hand.now c.loop-arm.hand c.handle_at_hand.new.hand i.0 i.1 x d.event d.handles small of c.handle_at_hand.ensures.seat some,
        few_push c.args.desk.now.shared.now.budget i.0 d.event i.2 (new_tickets c.args.desk.now.ground.instance.now c.args.desk.now.shared.now c.args.seat.now c.loop-arm.seat c.handle_at_hand.new.seat c.args.hand.now c.loop-arm.hand c.handle_at_hand.new.hand i.0 i.1 x d.event d.handles small) d.handles.look.in_budget,
        midway_more c.args.desk.now.starts c.args.arm.now c.loop-arm.arm c.find.new.arm i.0 c.loop-arm.at_hand.items i.3 c.offer.new.arm c.find.new.at_hand.items c.offer.new.at_hand.items x found offered d.event c.handle_at_hand.new.at_hand.items d.handles.box d.waits,
      );
      frames = subst (λ (f : Frame). All (λ (y : PlainBox). y.frame ≡ f) c.handle_at_hand.new.at_hand.items) (sym ring) framed;
      left = ap (λ (ls : Listed Left). ls.items) d.handles.left ∙ c.loop-arm.invariant.left;
      room = subst (λ (ls : Listed Left). 1 ≤ ls.spare) (sym d.handles.left) c.loop-arm.invariant.room;
      leasts = c.handle_at_hand.ensures.leasts;
      scratch = c.handle_at_hand.ensures.scratch;
      ring = ring;
      stays = stays_twice c.args.arm.now c.loop-arm.arm c.offer.new.arm c.loop-arm.invariant.stays (stays_twice c.loop-arm.arm c.find.new.arm c.offer.new.arm c.find.ensures.stays c.offer.ensures.stays);
    }

pub returns-clause-works : goal.returns-clause-works
returns-clause-works g c =
    let i = c.loop-arm.invariant.runs in
    record {
      events = i.0;
      spent = [];
      left = [];
      worked = i.1;
      left_is = c.loop-arm.invariant.left ∙ sym (append-nil c.args.hand.now.left.items);
      traffic = traffic_idle c.args.desk.now.starts c.args.arm.now c.loop-arm.arm c.push_all-2.new.arm i.0 c.loop-arm.at_hand.items i.3 (search rules);
      rests = (refl, refl, (let t = c.loop-arm-test.false in let m = c.misses.ensures in let n = c.push_all-2.ensures.misses in omega arith));
    }

pub returns-in_err-reserve-clause-stays : goal.returns-in_err-reserve-clause-stays
returns-in_err-reserve-clause-stays g c = stays_none c.args.arm.now

pub returns-in_err-offer-in-Some-clause-stays : goal.returns-in_err-offer-in-Some-clause-stays
returns-in_err-offer-in-Some-clause-stays g c = stays_twice c.args.arm.now c.loop-arm.arm c.offer.new.arm c.loop-arm.invariant.stays (stays_twice c.loop-arm.arm c.find.new.arm c.offer.new.arm c.find.ensures.stays c.offer.ensures.stays)

pub returns-in_err-offer-in-Some-clause-lost : goal.returns-in_err-offer-in-Some-clause-lost
returns-in_err-offer-in-Some-clause-lost g c =
    let i = c.loop-arm.invariant.runs in
    when_err _ (lost_between c.args.desk.now.ground.instance.now c.args.desk.now.shared.now c.args.seat.now c.loop-arm.seat c.args.hand.now c.loop-arm.hand i.0 i.1 c.loop-arm.invariant.left)

pub returns-in_err-handle_at_hand-in-Some-clause-stays : goal.returns-in_err-handle_at_hand-in-Some-clause-stays
returns-in_err-handle_at_hand-in-Some-clause-stays g c = stays_twice c.args.arm.now c.loop-arm.arm c.offer.new.arm c.loop-arm.invariant.stays (stays_twice c.loop-arm.arm c.find.new.arm c.offer.new.arm c.find.ensures.stays c.offer.ensures.stays)

pub returns-in_err-push_all-in-Some-clause-stays : goal.returns-in_err-push_all-in-Some-clause-stays
returns-in_err-push_all-in-Some-clause-stays g c = stays_twice c.args.arm.now c.offer.new.arm c.push_all.new.arm (stays_twice c.args.arm.now c.loop-arm.arm c.offer.new.arm c.loop-arm.invariant.stays (stays_twice c.loop-arm.arm c.find.new.arm c.offer.new.arm c.find.ensures.stays c.offer.ensures.stays)) c.push_all.ensures.stays

pub returns-then-not-branch-clause-stays : goal.returns-then-not-branch-clause-stays
returns-then-not-branch-clause-stays g c = stays_twice c.args.arm.now c.offer.new.arm c.push_all.new.arm (stays_twice c.args.arm.now c.loop-arm.arm c.offer.new.arm c.loop-arm.invariant.stays (stays_twice c.loop-arm.arm c.find.new.arm c.offer.new.arm c.find.ensures.stays c.offer.ensures.stays)) c.push_all.ensures.stays

pub returns-in_err-push_all-clause-stays : goal.returns-in_err-push_all-clause-stays
returns-in_err-push_all-clause-stays g c = stays_twice c.args.arm.now c.loop-arm.arm c.push_all-2.new.arm c.loop-arm.invariant.stays c.push_all-2.ensures.stays

pub returns-in_err-push_all-clause-lost : goal.returns-in_err-push_all-clause-lost
returns-in_err-push_all-clause-lost g c =
    let i = c.loop-arm.invariant.runs in
    when_err _ (lost_between c.args.desk.now.ground.instance.now c.args.desk.now.shared.now c.args.seat.now c.loop-arm.seat c.args.hand.now c.loop-arm.hand i.0 i.1 c.loop-arm.invariant.left)

pub returns-clause-stays : goal.returns-clause-stays
returns-clause-stays g c = stays_twice c.args.arm.now c.loop-arm.arm c.push_all-2.new.arm c.loop-arm.invariant.stays c.push_all-2.ensures.stays

pub loop-arm-preserved-in-None : goal.loop-arm-preserved-in-None
loop-arm-preserved-in-None g c =
    let i = c.loop-arm.invariant.runs in record {
      runs = (i.0, i.1, i.2, midway_idle c.args.desk.now.starts c.args.arm.now c.loop-arm.arm c.find.new.arm i.0 c.loop-arm.at_hand.items i.3 c.find.new.at_hand.items c.in-None.ensures.moves);
      frames = c.find.ensures.frames;
      left = c.loop-arm.invariant.left;
      room = c.loop-arm.invariant.room;
      leasts = c.loop-arm.invariant.leasts;
      scratch = c.loop-arm.invariant.scratch;
      ring = c.find.ensures.stays.frame ∙ c.loop-arm.invariant.ring;
      stays = stays_twice c.args.arm.now c.loop-arm.arm c.find.new.arm c.loop-arm.invariant.stays c.find.ensures.stays;
    }

pub handle_at_hand-requires-clause-frame : goal.handle_at_hand-requires-clause-frame
handle_at_hand-requires-clause-frame g c = c.in-Some.ensures.frame ∙ c.loop-arm.invariant.ring

pub handle_at_hand-requires-clause-frames : goal.handle_at_hand-requires-clause-frames
handle_at_hand-requires-clause-frames g c =
    let ring : frame c.offer.new.arm ≡ frame_of c.args.desk.now.ground.instance.now = c.offer.ensures.stays.frame ∙ c.find.ensures.stays.frame ∙ c.loop-arm.invariant.ring in
    subst (λ (f : Frame). All (λ (y : PlainBox). y.frame ≡ f) c.offer.new.at_hand.items) ring c.offer.ensures.frames

pub handle_at_hand-requires-clause-allowance : goal.handle_at_hand-requires-clause-allowance
handle_at_hand-requires-clause-allowance g c =
    let i = c.loop-arm.invariant.runs in
    may_draw c.args.desk.now.shared.now.budget c.loop-arm.seat.view.allowance c.args.seat.now.view.allowance i.0 i.2 i.1.allowance c.requires.allowance
