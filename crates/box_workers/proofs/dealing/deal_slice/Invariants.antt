use Rattle.std.proofs.Common.{◌≡◌, All, length}
use Rattle.plan_box.specs.Ranges.{PlainBox}
use Rattle.box_ring.specs.Arms.{frame}
use Rattle.box_workers.specs.declared.member.Member.{Member}
use Rattle.box_workers.proofs.Dealt.{AreDealt}
use Rattle.box_workers.proofs.dealing.deal_slice.Given as goal

abbrev pub invariant-loop-bx : goal.invariant-loop-bx
invariant-loop-bx l = record {
  frames : All (λ (x : PlainBox). All (λ (m : Member). x.frame ≡ frame m.arm) l.initial.members) l.boxes.items;
  dealt : AreDealt l.initial.boxes.items l.boxes.items l.initial.members l.members;
  long : length l.members ≡ length l.initial.members;
}

abbrev pub decreases-loop-bx : goal.decreases-loop-bx
decreases-loop-bx l = length l.boxes.items
