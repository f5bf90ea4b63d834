use Rattle.std.proofs.Common.{[], ◌∷◌, drop}
use Rattle.plan_box.specs.Frames.{frame_of}
use Rattle.plan_box.specs.Ranges.{root_of}
use Rattle.cert_resume.specs.OpenBoxes.{numbered_from}
use Rattle.cert_resume.specs.inner.Walks.{HasCome, open_from}
use Rattle.cert_resume.proofs.opening.left_boxes.Given as goal

abbrev pub invariant-loop-node : goal.invariant-loop-node
invariant-loop-node l =
    let f = frame_of l.instance in
    HasCome f (numbered_from f 0 (open_from ((root_of f 0).ranges ∷ []) l.cert.nodes.items)) (drop l.node-index l.cert.nodes.items) l.boxes.waiting.items l.boxes.left.items
