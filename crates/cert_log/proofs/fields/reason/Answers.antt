use Rattle.std.proofs.Common.{arith}
use Rattle.cert_log.proofs.Marks.{no_reason}
use Rattle.cert_log.proofs.fields.reason.Goals as goal

pub returns-in_default : goal.returns-in_default
returns-in_default c = no_reason c.in_ok-number.field-0 c.args.text.now c.in_ok-number.ensures.0 c.in_ok-number.ensures.1 (λ some. omega arith)
