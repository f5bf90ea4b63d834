use Rattle.std.proofs.Common.{take}
use Rattle.cert_log.specs.inner.Fields.{Lacks}
use Rattle.cert_log.proofs.fields.field.Given as goal

abbrev pub invariant-loop-at : goal.invariant-loop-at
invariant-loop-at l = Lacks l.mark (take l.at l.text)
