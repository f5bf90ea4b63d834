use Rattle.std.proofs.Common.{List, subst, sym, ◌∙◌}
use Rattle.box_workers.specs.declared.member.Member.{Member}
use Rattle.box_workers.specs.inner.Dealing.{Deals}
use Rattle.box_workers.proofs.Dealt.{dealt_length}
use Rattle.box_workers.proofs.Members.{written}
use Rattle.box_workers.proofs.dealing.deal.Goals as goal

pub returns : goal.returns
returns c =
    let h = c.as_mut_slice.ensures in let d : Deals c.args.boxes.items c.as_mut_slice.result.now c.deal_slice.new.members = c.in_ok-deal_slice.ensures in
    let long = dealt_length c.as_mut_slice.result.now c.deal_slice.new.members d.each in
    let v : Deals c.args.boxes.items c.args.members.items c.deal_slice.new.members = subst (λ (l : List Member). Deals c.args.boxes.items l c.deal_slice.new.members) h.value d in
    subst (Deals c.args.boxes.items c.args.members.items) (sym (written c.args.members.len c.args.members.items c.deal_slice.new.members (long ∙ h.len))) v
