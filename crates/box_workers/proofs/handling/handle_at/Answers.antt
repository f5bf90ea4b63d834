use Rattle.std.proofs.Common.{rules, refl}
use Rattle.box_workers.proofs.Steps.{answers}
use Rattle.box_workers.proofs.handling.handle_at.Goals as goal

pub returns-then-ticket-budget-clause-done : goal.returns-then-ticket-budget-clause-done
returns-then-ticket-budget-clause-done g c = (
  refl,
  record { ticket = c.draw-ticket.result; fresh = c.draw-ticket.ensures.above; spent = search rules; seat = c.draw-ticket.ensures.view; idle = c.prepare.ensures.idle },
)

pub returns-clause-done : goal.returns-clause-done
returns-clause-done g c =
    let d = c.decide-act.ensures.decides in
    answers c.args.desk.now.ground.instance.now c.args.desk.now.shared.now c.args.bx c.args.seat.now c.draw-ticket.new.seat c.decide-act.new.seat c.args.hand.now c.prepare.new.hand c.decide-act.new.hand c.carry_out.new.hand c.draw-ticket.result d.0 d.1 c.decide-act.result
    c.draw-ticket.ensures.view c.draw-ticket.ensures.above (search rules) c.requires.allowance c.prepare.ensures.idle d.2 c.carry_out.ensures.noted c.args.desk.now.starts c.carry_out.result (c.carry_out.ensures.gives d.0 d.1)
