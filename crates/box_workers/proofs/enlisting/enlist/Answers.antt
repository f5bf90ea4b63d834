use Rattle.std.proofs.Common.{◌≡◌, length, arith}
use Rattle.std.specs.Prelude.{None}
use Rattle.box_workers.specs.declared.member.Member.{Member}
use Rattle.box_workers.proofs.Enlisted.{enlists_more}
use Rattle.box_workers.proofs.enlisting.enlist.Goals as goal

pub loop-arm-preserved : goal.loop-arm-preserved
loop-arm-preserved c =
    let m : Member = record { seat = c.split_seat-own.result; hand = c.in_ok-hand.hand; arm = c.in-Some.arm; rest = None; apart = c.new-in-Some.result } in let s = c.split_seat-own.ensures in let n = c.in_ok-hand.ensures in
    let number : m.hand.worker ≡ length c.pop.new.self.items = omega arith in record {
      enlists = enlists_more c.args.instance.now c.args.shared.now c.args.arms.items c.loop-arm.arms.items c.pop.new.self.items c.loop-arm.members.items c.push.new.self.items m c.args.seat.now c.loop-arm.seat c.split_seat-own.new.seat
          c.in-Some.ensures.last c.in_ok-push.ensures.items c.requires.budget s.seats.0 s.seats.1 s.old s.new (record { log = n.log; plan = n.plan.0; loss = n.plan.1; scratch = n.scratch; leasts = n.leasts }) n.left number c.loop-arm.invariant.enlists;
    }
