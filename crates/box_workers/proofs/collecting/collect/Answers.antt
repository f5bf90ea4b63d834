use Rattle.std.proofs.Common.{rules, ◌≡◌, ◌∷◌, ◌++◌, [], List, reverse, refl, ap, ◌∙◌, arith}
use Rattle.std.specs.Prelude.{Some}
use Rattle.std.proofs.lemmas.List.Elements.{All-pop}
use Rattle.box_ring.specs.Arms.{ArmState}
use Rattle.shared_best.specs.declared.view.View.{View}
use Rattle.shared_best.specs.Seats.{IsSeatOf}
use Rattle.box_workers.specs.declared.member.Member.{Member}
use Rattle.box_workers.specs.inner.Members.{arms_of}
use Rattle.box_workers.proofs.Collected.{partly_none, partly_more, partly_done, arms_more, arms_done, none_of_length}
use Rattle.box_workers.proofs.collecting.collect.Goals as goal

pub loop-member-init : goal.loop-member-init
loop-member-init c = record {
  seat = c.requires.seat;
  allowance = omega arith;
  hand = (refl, refl, refl);
  seats = c.requires.seats;
  arms = ap (λ (l : List ArmState). l ++ reverse (arms_of c.args.members.items)) c.new-arms.ensures;
  partly = λ b starts olds done new none. partly_none b c.args.shared.now starts olds c.args.members.items c.args.members.items c.args.seat.now c.args.hand.now refl done new none;
}

pub join_member-requires : goal.join_member-requires
join_member-requires c = record {
  seats = (c.loop-member.invariant.seat, (All-pop (λ (m : Member). IsSeatOf c.args.shared.now m.seat) c.loop-member.members.items c.pop.new.self.items (Some c.in-Some.member) c.in-Some.ensures.items c.loop-member.invariant.seats).1);
}

pub loop-member-preserved : goal.loop-member-preserved
loop-member-preserved c =
    let i = c.loop-member.invariant in let e = c.in-Some.ensures.items in let j = c.in_ok-arm.ensures in
    let pushed : c.append.new.run.items ≡ c.loop-member.arms.items ++ c.in-Some.member.arm ∷ [] = c.in_ok-append.ensures.ok ∙ ap (λ (a : ArmState). c.loop-member.arms.items ++ a ∷ []) j.arm in record {
      seat = j.seat;
      allowance = (let a = i.allowance in let d = ap (λ (v : View). v.allowance) j.view in omega arith);
      hand = (j.joins.worker ∙ i.hand.0, j.joins.scratch ∙ i.hand.1, j.joins.leasts ∙ i.hand.2);
      seats = (All-pop (λ (m : Member). IsSeatOf c.args.shared.now m.seat) c.loop-member.members.items c.pop.new.self.items (Some c.in-Some.member) e i.seats).0;
      arms = arms_more c.loop-member.arms.items c.append.new.run.items _ c.loop-member.members.items c.pop.new.self.items c.in-Some.member e pushed i.arms;
      partly = λ b starts olds done new none. partly_more b c.args.shared.now starts olds c.args.members.items c.loop-member.members.items c.pop.new.self.items c.in-Some.member c.args.seat.now c.loop-member.seat c.join_member.new.seat
          c.loop-member.hand c.join_member.new.hand j.rest.0 e j.rest.1 j.view j.joins (i.partly b starts olds done new none);
    }

pub returns-clause-arms : goal.returns-clause-arms
returns-clause-arms c = arms_done c.loop-member.arms.items _ c.loop-member.members.items (none_of_length _ (search rules)) c.loop-member.invariant.arms

pub returns-clause-collects : goal.returns-clause-collects
returns-clause-collects c b starts olds done new none =
    partly_done b c.args.shared.now starts olds c.args.members.items c.loop-member.members.items c.args.seat.now c.loop-member.seat c.loop-member.hand (none_of_length _ (search rules)) (c.loop-member.invariant.partly b starts olds done new none)
