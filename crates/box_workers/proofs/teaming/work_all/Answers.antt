use Rattle.std.proofs.Common.{subst, sym, ◌∙◌, List}
use Rattle.box_workers.specs.declared.member.Member.{Member}
use Rattle.box_workers.specs.inner.Members.{EachDone}
use Rattle.box_workers.proofs.Members.{each_done, written}
use Rattle.box_workers.proofs.teaming.work_all.Goals as goal

pub returns : goal.returns
returns g c =
    let h = c.as_mut_slice.ensures in let k = c.work_members.ensures in let b = c.args.desk.now.ground.instance.now in let w = c.args.desk.now.shared.now in let n = c.args.desk.now.starts in
    let r : EachDone b w n c.as_mut_slice.result.now c.work_members.new.members = each_done b w n _ _ k.len k.each in
    let v : EachDone b w n c.args.members.items c.work_members.new.members = subst (λ (l : List Member). EachDone b w n l c.work_members.new.members) h.value r in
    subst (λ (l : List Member). EachDone b w n c.args.members.items l) (sym (written c.args.members.len c.args.members.items c.work_members.new.members (k.len ∙ h.len))) v
