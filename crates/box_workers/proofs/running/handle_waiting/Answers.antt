use Rattle.std.proofs.Common.{rules, ◌≡◌, All, subst, sym}
use Rattle.plan_box.specs.Frames.{frame_of}
use Rattle.plan_box.specs.Ranges.{PlainBox}
use Rattle.box_workers.specs.Handling.{Answers}
use Rattle.box_workers.specs.declared.handling.Done.{Done}
use Rattle.box_workers.proofs.Progress.{halves_wait, turns_closed, turns_split, waits_on}
use Rattle.box_workers.proofs.running.handle_waiting.Goals as goal

pub returns-in-Split-clause-frames : goal.returns-in-Split-clause-frames
returns-in-Split-clause-frames g c =
    let d : Answers c.args.desk.now.ground.instance.now c.args.desk.now.shared.now c.args.desk.now.starts c.args.bx c.args.seat.now c.turn.new.seat c.args.hand.now c.turn.new.hand (Done.Split c.in-Split.lower c.in-Split.upper) = search rules in
    let before : All (λ (x : PlainBox). x.frame ≡ frame_of c.args.desk.now.ground.instance.now) c.reserve.new.self.items = search rules in
    subst (All (λ (x : PlainBox). x.frame ≡ frame_of c.args.desk.now.ground.instance.now)) (sym c.put_halves.ensures)
    (halves_wait c.args.desk.now.ground.instance.now c.args.desk.now.starts d.0 c.args.bx c.in-Split.lower c.in-Split.upper c.reserve.new.self.items before d.1.box c.requires.frame d.2)

pub returns-in-Spent-clause-frames : goal.returns-in-Spent-clause-frames
returns-in-Spent-clause-frames g c =
    let d : Answers c.args.desk.now.ground.instance.now c.args.desk.now.shared.now c.args.desk.now.starts c.args.bx c.args.seat.now c.turn.new.seat c.args.hand.now c.turn.new.hand (Done.Spent c.in-Spent.bx) = search rules in
    let before : All (λ (x : PlainBox). x.frame ≡ frame_of c.args.desk.now.ground.instance.now) c.reserve.new.self.items = search rules in
    subst (All (λ (x : PlainBox). x.frame ≡ frame_of c.args.desk.now.ground.instance.now)) (sym c.put.ensures.items) (waits_on c.args.desk.now.ground.instance.now c.args.bx c.in-Spent.bx c.reserve.new.self.items before d.0 c.requires.frame)

pub returns-in-Closed-clause-turns : goal.returns-in-Closed-clause-turns
returns-in-Closed-clause-turns g c =
    let d : Answers c.args.desk.now.ground.instance.now c.args.desk.now.shared.now c.args.desk.now.starts c.args.bx c.args.seat.now c.turn.new.seat c.args.hand.now c.turn.new.hand Done.Closed = search rules in
    let same : c.reserve.new.self.items ≡ c.args.waiting.now.items = search rules in
    turns_closed c.args.desk.now.ground.instance.now c.args.desk.now.shared.now c.args.desk.now.starts c.args.bx c.args.seat.now c.turn.new.seat c.args.hand.now c.turn.new.hand c.args.waiting.now.items c.reserve.new.self.items same d

pub returns-in-Split-clause-turns : goal.returns-in-Split-clause-turns
returns-in-Split-clause-turns g c =
    let d : Answers c.args.desk.now.ground.instance.now c.args.desk.now.shared.now c.args.desk.now.starts c.args.bx c.args.seat.now c.turn.new.seat c.args.hand.now c.turn.new.hand (Done.Split c.in-Split.lower c.in-Split.upper) = search rules in
    let same : c.reserve.new.self.items ≡ c.args.waiting.now.items = search rules in
    turns_split c.args.desk.now.ground.instance.now c.args.desk.now.shared.now c.args.desk.now.starts c.args.bx c.args.seat.now c.turn.new.seat c.args.hand.now c.turn.new.hand c.args.waiting.now.items c.reserve.new.self.items _ c.in-Split.lower c.in-Split.upper same c.put_halves.ensures d
