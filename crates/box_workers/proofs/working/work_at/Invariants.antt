use Rattle.std.proofs.Common.{◌≡◌, ◌+◌, ◌-◌, ◌*◌, ◌≤◌, List, [], length, All}
use Rattle.plan_box.specs.Frames.{frame_of}
use Rattle.plan_box.specs.Ranges.{PlainBox}
use Rattle.box_bound.specs.Leastings.{IsOf}
use Rattle.cert_log.specs.Events.{Event}
use Rattle.box_ring.specs.Arms.{frame, Stays}
use Rattle.box_workers.specs.Works.{Worked}
use Rattle.box_workers.specs.inner.Rounds.{AreFew, Midway}
use Rattle.box_workers.proofs.working.work_at.Given as goal

abbrev pub invariant-loop-arm : goal.invariant-loop-arm
invariant-loop-arm g l = record {
  runs : (es : List Event) × Worked l.desk.ground.instance.now l.desk.shared.now l.fn.seat l.seat l.fn.hand l.hand es [] × AreFew l.desk.shared.now.budget es × Midway l.desk.starts l.fn.arm l.arm es l.at_hand.items;
  frames : All (λ (x : PlainBox). x.frame ≡ frame l.arm) l.at_hand.items;
  left : l.hand.left.items ≡ l.fn.hand.left.items;
  room : 1 ≤ l.hand.left.spare;
  leasts : IsOf l.desk.ground.instance.now l.hand.leasts;
  scratch : length l.hand.scratch.steps.items ≡ length l.desk.ground.instance.now.items;
  ring : frame l.arm ≡ frame_of l.desk.ground.instance.now;
  stays : Stays l.fn.arm l.arm;
}

abbrev pub decreases-loop-arm : goal.decreases-loop-arm
decreases-loop-arm g l = 100001 * l.seat.view.allowance + (100000 - l.arm.misses)
