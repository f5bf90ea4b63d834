use Rattle.std.proofs.Common.{inr, arith}
use Rattle.std.specs.Fmt.{decimal}
use Rattle.cert_log.specs.Values.{IsVersionNumber}
use Rattle.cert_log.proofs.Spelling.{decimal_lacks}
use Rattle.cert_log.proofs.Marks.{marked, none_taken, version_small}
use Rattle.cert_log.proofs.fields.take_version.Goals as goal

pub returns-in_err-before : goal.returns-in_err-before
returns-in_err-before c = rw c.from_residual.ensures (λ a rest is e. marked 59 c.args.text.now (decimal a) rest c.in_err-before.ensures e)

pub returns-in_err-version : goal.returns-in_err-version
returns-in_err-version c = rw c.from_residual-in_err-version.ensures
    (none_taken decimal IsVersionNumber 59 c.args.text.now c.in_ok-before.before.now c.in_ok-before.behind.now (λ a is. decimal_lacks 59 a (inr (omega arith)) (version_small a is)) c.in_ok-before.ensures.0 c.in_ok-before.ensures.1 c.in_err-version.ensures)
