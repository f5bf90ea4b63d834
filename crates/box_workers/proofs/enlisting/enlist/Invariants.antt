use Rattle.std.proofs.Common.{length}
use Rattle.box_workers.proofs.Enlisted.{Enlists}
use Rattle.box_workers.proofs.enlisting.enlist.Given as goal

abbrev pub invariant-loop-arm : goal.invariant-loop-arm
invariant-loop-arm l = record {
  enlists : Enlists l.instance l.shared l.fn.arms.items l.arms.items l.members.items l.initial.seat l.seat;
}

abbrev pub decreases-loop-arm : goal.decreases-loop-arm
decreases-loop-arm l = length l.arms.items
