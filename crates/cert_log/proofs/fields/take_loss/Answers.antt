use Rattle.cert_log.specs.Texts.{loss_text}
use Rattle.cert_log.specs.Values.{IsLoss}
use Rattle.cert_log.proofs.Marks.{marked, none_taken}
use Rattle.cert_log.proofs.Heads.{loss_lacks}
use Rattle.cert_log.proofs.fields.take_loss.Goals as goal

pub returns-in_err-before : goal.returns-in_err-before
returns-in_err-before c = rw c.from_residual.ensures (λ a rest is e. marked 59 c.args.text.now (loss_text a) rest c.in_err-before.ensures e)

pub returns-in_err-loss : goal.returns-in_err-loss
returns-in_err-loss c = rw c.from_residual-in_err-loss.ensures
    (none_taken loss_text IsLoss 59 c.args.text.now c.in_ok-before.before.now c.in_ok-before.behind.now (λ a is. loss_lacks a is) c.in_ok-before.ensures.0 c.in_ok-before.ensures.1 c.in_err-loss.ensures)
