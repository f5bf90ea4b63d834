use Rattle.std.proofs.Common.{ℕ, rules, arith, ap, reverse, ◌∙◌}
use Rattle.std.specs.List.{range_with_len}
use Rattle.std.proofs.lemmas.Result.{IfOk-weaker}
use Rattle.box_workers.proofs.Rings.{set_up, dealt_numbers, dealt_share}
use Rattle.box_workers.proofs.spreading.set_up.Goals as goal

pub returns-clause-share : goal.returns-clause-share
returns-clause-share g c =
    IfOk-weaker c.deal.result _ _ (λ ms d. (let e = dealt_share c.in_ok-members.members.items ms.items d.each in let s = c.in_ok-members.ensures.share in omega arith)) c.deal.ensures

pub returns-clause-numbers : goal.returns-clause-numbers
returns-clause-numbers g c =
    IfOk-weaker c.deal.result _ _ (λ ms d. (let numbers = ap (λ (n : ℕ). reverse (range_with_len 0 n)) c.in_ok-arms.ensures.len in dealt_numbers c.in_ok-members.members.items ms.items d.each ∙ c.in_ok-members.ensures.numbers ∙ numbers)) c.deal.ensures

pub returns-clause-set : goal.returns-clause-set
returns-clause-set g c =
    let a = c.in_ok-arms.ensures in let m = c.in_ok-members.ensures in
    IfOk-weaker c.deal.result _ _ (λ ms d. set_up c.args.desk.now.ground.instance.now c.args.desk.now.shared.now c.args.start.items c.in_ok-arms.arms.items c.in_ok-members.members.items ms.items a.ring (search rules) a.fresh m.arms m.new m.ready d) c.deal.ensures
