use Rattle.std.proofs.Common.{◌+◌, ◌<◌, length, vec_len, vec_capacity}
use Rattle.crossbeam_deque.specs.Handles.{worker_deque, worker_view}
use Rattle.box_ring.specs.Neighbours.{deque_of, tally_of}
use Rattle.box_ring.specs.inner.Deques.{views}
use Rattle.box_ring.proofs.Joined.{Joins}
use Rattle.box_ring.proofs.rings.collect.Given as goal

abbrev pub invariant-loop-arm : goal.invariant-loop-arm
invariant-loop-arm l = record {
  joins : Joins l.fn.arms.items l.arms.items (worker_deque l.current) (worker_view l.current) (deque_of l.first_other) (tally_of l.first_other) (views l.deques.items);
  room : vec_len l.deques + length l.arms.items < vec_capacity l.deques;
}

abbrev pub decreases-loop-arm : goal.decreases-loop-arm
decreases-loop-arm l = length l.arms.items
