use Rattle.std.proofs.lemmas.Result.{IfOk-weaker}
use Rattle.run_frame.specs.Forms.{answer_in}
use Rattle.run_checks.proofs.CheckedBehind.{verifies_all, verifies_later}
use Rattle.run_checks.proofs.checking_behind.verify_from.Goals as goal

pub returns-then-k-eq0 : goal.returns-then-k-eq0
returns-then-k-eq0 g c =
    IfOk-weaker c.verify_texts.result _ _ (λ r h names. verifies_all c.args.k c.args.ground.instance.now _ c.args.cert_text.now (answer_in names r) c.if-k-eq0.true (h names)) c.verify_texts.ensures

pub returns : goal.returns
returns g c =
    IfOk-weaker c.verify_behind.result _ _
    (λ r h names. verifies_later c.args.k c.args.ground.instance.now _ c.or_empty.result.now c.args.cert_text.now (answer_in names r) c.if-k-eq0.false c.or_empty.ensures (h names)) c.verify_behind.ensures
