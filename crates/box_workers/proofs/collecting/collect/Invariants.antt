use Rattle.std.proofs.Common.{◌≡◌, ◌≤◌, ◌++◌, ℕ, List, [], reverse, vec_len, All}
use Rattle.glass_base.specs.Problem.{Problem}
use Rattle.shared_best.specs.Seats.{IsSeatOf}
use Rattle.box_workers.specs.declared.member.Member.{Member}
use Rattle.box_workers.specs.inner.Members.{IsNew, EachDone, arms_of}
use Rattle.box_workers.specs.inner.Teamwork.{IsTeamwork}
use Rattle.box_workers.proofs.Collected.{Partly}
use Rattle.box_workers.proofs.collecting.collect.Given as goal

abbrev pub invariant-loop-member : goal.invariant-loop-member
invariant-loop-member l = record {
  seat : IsSeatOf l.shared l.seat;
  allowance : l.initial.seat.view.allowance ≤ l.seat.view.allowance;
  hand : (l.hand.worker ≡ l.initial.hand.worker) × (l.hand.scratch ≡ l.initial.hand.scratch) × (l.hand.leasts ≡ l.initial.hand.leasts);
  seats : All (λ (m : Member). IsSeatOf l.shared m.seat) l.members.items;
  arms : l.arms.items ++ reverse (arms_of l.members.items) ≡ reverse (arms_of l.fn.members.items);
  partly : (b : Problem) (starts : ℕ) (olds : List Member) → EachDone b l.shared starts olds l.fn.members.items → All (IsNew b) olds → IsTeamwork b l.shared l.initial.seat.view l.initial.hand [] []
      → Partly b l.shared starts olds l.fn.members.items l.members.items l.initial.seat l.seat l.hand;
}

abbrev pub decreases-loop-member : goal.decreases-loop-member
decreases-loop-member l = vec_len l.members
