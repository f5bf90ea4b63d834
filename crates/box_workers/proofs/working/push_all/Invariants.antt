use Rattle.std.proofs.Common.{◌≡◌, [], All}
use Rattle.std.specs.VecDeque.{deque_len}
use Rattle.plan_box.specs.Ranges.{PlainBox}
use Rattle.box_ring.specs.Arms.{frame, Stays}
use Rattle.box_workers.specs.inner.Rounds.{Moves}
use Rattle.box_workers.proofs.working.push_all.Given as goal

abbrev pub invariant-loop-arm : goal.invariant-loop-arm
invariant-loop-arm l = record {
  stays : Stays l.initial.arm l.arm;
  moves : Moves l.fn.at_hand.items l.at_hand.items [] l.initial.arm l.arm;
  misses : l.arm.misses ≡ l.initial.arm.misses;
  frames : All (λ (x : PlainBox). x.frame ≡ frame l.arm) l.at_hand.items;
}

abbrev pub decreases-loop-arm : goal.decreases-loop-arm
decreases-loop-arm l = deque_len l.at_hand
