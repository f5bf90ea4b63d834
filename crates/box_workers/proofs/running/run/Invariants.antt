use Rattle.std.proofs.Common.{List, []}
use Rattle.cert_log.specs.Events.{Event}
use Rattle.box_workers.specs.inner.Rounds.{HasRun}
use Rattle.box_workers.proofs.running.run.Given as goal

abbrev pub invariant-loop-bx : goal.invariant-loop-bx
invariant-loop-bx g l = record {
  runs : (es : List Event) × HasRun l.desk.ground.instance.now l.desk.shared.now l.desk.starts l.initial.waiting.items l.initial.seat l.seat l.initial.hand l.hand l.waiting.items es [];
}

abbrev pub decreases-loop-bx : goal.decreases-loop-bx
decreases-loop-bx g l = l.seat.view.allowance
