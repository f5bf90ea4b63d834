use Rattle.std.proofs.Common.{◌+◌, ◌-◌, length}
use Rattle.cert_log.specs.inner.Growth.{IsGrowing}
use Rattle.cert_log.proofs.assembling.certificate_of.Given as goal

abbrev pub invariant-loop-next : goal.invariant-loop-next
invariant-loop-next l = IsGrowing l.history l.id l.growth.waiting.items l.growth.nodes.items l.growth.bound

abbrev pub decreases-loop-next : goal.decreases-loop-next
decreases-loop-next l = length l.history.log.items + length l.history.left.items - length l.growth.nodes.items
