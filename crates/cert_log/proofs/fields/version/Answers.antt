use Rattle.std.proofs.Common.{arith}
use Rattle.cert_log.proofs.Marks.{other_than}
use Rattle.cert_log.proofs.fields.version.Goals as goal

pub returns-in_default : goal.returns-in_default
returns-in_default c = λ a is e. other_than c.in_ok-number.field-0 a c.args.text.now c.in_ok-number.ensures.0 c.in_ok-number.ensures.1 (λ some. omega arith) is e
