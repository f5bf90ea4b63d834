use Rattle.std.specs.Fmt.{decimal}
use Rattle.cert_log.specs.Values.{IsNumber}
use Rattle.cert_log.proofs.Spelling.{decimal_lacks}
use Rattle.cert_log.proofs.Marks.{marked, none_taken}
use Rattle.cert_log.proofs.fields.take_number.Goals as goal

pub returns-in_err-before : goal.returns-in_err-before
returns-in_err-before c = rw c.from_residual.ensures (λ a rest is e. marked c.args.mark c.args.text.now (decimal a) rest c.in_err-before.ensures e)

pub returns-in_err-number : goal.returns-in_err-number
returns-in_err-number c = rw c.from_residual-in_err-number.ensures
    (none_taken decimal IsNumber c.args.mark c.args.text.now c.in_ok-before.before.now c.in_ok-before.behind.now (λ a is. decimal_lacks c.args.mark a c.requires is) c.in_ok-before.ensures.0 c.in_ok-before.ensures.1 c.in_err-number.ensures)
