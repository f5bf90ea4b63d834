use Rattle.cert_log.proofs.Marks.{lacks_more}
use Rattle.cert_log.proofs.fields.field.Goals as goal

pub loop-at-preserved : goal.loop-at-preserved
loop-at-preserved c = lacks_more c.args.mark c.loop-at.at _ c.args.text.now c.loop-at-test.true c.loop-at.invariant c.if-byte-mark.false
