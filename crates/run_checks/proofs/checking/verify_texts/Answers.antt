use Rattle.std.proofs.lemmas.Result.{IfOk-weaker}
use Rattle.run_frame.specs.Forms.{answer_in}
use Rattle.run_checks.proofs.Accepting.{verifies_none}
use Rattle.run_checks.proofs.checking.verify_texts.Goals as goal

pub returns-in-Err : goal.returns-in-Err
returns-in-Err g c =
    IfOk-weaker c.reply_at.result _ _ (λ r told names. verifies_none c.args.ground.instance.now _ c.args.cert_text.now (answer_in names r) c.in-Err.stop c.in-Err.ensures.accepted (told names)) c.reply_at.ensures
