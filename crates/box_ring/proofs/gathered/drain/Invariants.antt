use Rattle.std.proofs.Common.{List, vec_len}
use Rattle.plan_box.specs.declared.frame.Frame.{Frame}
use Rattle.plan_box.specs.Ranges.{PlainBox}
use Rattle.box_ring.specs.Tallies.{AllWhole}
use Rattle.box_ring.specs.Gathers.{IsLeft, AllFramed}
use Rattle.box_ring.specs.inner.Deques.{views}
use Rattle.box_ring.proofs.gathered.drain.Given as goal

abbrev pub invariant-loop-last : goal.invariant-loop-last
invariant-loop-last l = record {
  whole : AllWhole (views l.deques.items);
  left : (xs : List PlainBox) → IsLeft (views l.deques.items) xs → IsLeft (views l.fn.deques.items) xs;
  framed : (f : Frame) → AllFramed f (views l.fn.deques.items) → AllFramed f (views l.deques.items);
}

abbrev pub decreases-loop-last : goal.decreases-loop-last
decreases-loop-last l = vec_len l.deques
