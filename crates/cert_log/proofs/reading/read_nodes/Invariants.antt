use Rattle.std.proofs.Common.{length}
use Rattle.cert_log.specs.inner.SoFar.{IsSoFar}
use Rattle.cert_log.proofs.reading.read_nodes.Given as goal

abbrev pub invariant-loop-at : goal.invariant-loop-at
invariant-loop-at l = IsSoFar l.head.version l.fn.text l.nodes.items l.at l.rest l.line

abbrev pub decreases-loop-at : goal.decreases-loop-at
decreases-loop-at l = length l.rest
