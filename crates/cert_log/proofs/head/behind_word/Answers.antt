use Rattle.cert_log.proofs.Marks.{no_true}
use Rattle.cert_log.proofs.Heads.{other_word}
use Rattle.cert_log.proofs.head.behind_word.Goals as goal

pub returns-else-is_word : goal.returns-else-is_word
returns-else-is_word c = other_word c.args.text.now c.in_ok-word.word.now c.in_ok-word.rest.now c.in_ok-word.ensures.0 c.in_ok-word.ensures.1 (λ e. no_true c.is_word.result (c.is_word.ensures.1 e) c.if-is_word.false)
