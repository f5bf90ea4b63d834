use Rattle.std.proofs.Common.{◌≡◌, length}
use Rattle.plan_box.specs.Frames.{frame_of}
use Rattle.plan_box.specs.Ranges.{root_of}
use Rattle.cert_check.specs.inner.Knowns.{HasRoom}
use Rattle.cert_check.specs.inner.Naming.{IsNaming}
use Rattle.cert_check.proofs.reasoning.name_on.Given as goal

abbrev pub invariant-loop-node : goal.invariant-loop-node
invariant-loop-node l = record {
  naming : IsNaming l.ground.instance.now (root_of (frame_of l.ground.instance.now) 0).ranges l.cert.nodes.items l.node-index l.path.boxes l.nodes.items;
  room : HasRoom (length l.ground.instance.now.items) l.scratch;
  frame : l.path.frame ≡ frame_of l.ground.instance.now;
}
