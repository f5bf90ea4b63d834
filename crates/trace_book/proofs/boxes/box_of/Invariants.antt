use Rattle.std.proofs.Common.{◌≡◌}
use Rattle.plan_box.specs.Frames.{frame_of}
use Rattle.trace_book.proofs.boxes.box_of.Given as goal

-- each half keeps the frame
abbrev pub invariant-loop-half : goal.invariant-loop-half
invariant-loop-half l = l.bx.frame ≡ frame_of l.instance
