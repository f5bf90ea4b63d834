use Rattle.std.proofs.Common.{◌≡◌, ◌≤◌, ◌+◌, length}
use Rattle.plan_box.specs.Frames.{frame_of}
use Rattle.plan_box.specs.Ranges.{root_of}
use Rattle.cert_check.specs.inner.Knowns.{HasRoom}
use Rattle.cert_check.specs.inner.Walks.{IsWalking}
use Rattle.cert_check.proofs.walk.walk_on.Given as goal

abbrev pub invariant-loop-node : goal.invariant-loop-node
invariant-loop-node l = record {
  walking : IsWalking l.ground.instance.now (root_of (frame_of l.ground.instance.now) 0).ranges l.loss l.cert l.node-index l.path.boxes l.place l.tally;
  room : HasRoom (length l.ground.instance.now.items) l.scratch;
  frame : l.path.frame ≡ frame_of l.ground.instance.now;
  line : l.place.line ≤ l.node-index + 1;
  left : l.tally.left ≤ l.node-index;
}
