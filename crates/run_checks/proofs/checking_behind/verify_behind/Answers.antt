use Rattle.std.proofs.Common.{◌+◌, ◌<◌, ◌^◌, ℕ, subst, sym}
use Rattle.std.specs.Prelude.{IfSome}
use Rattle.std.proofs.lemmas.Result.{IfOk-weaker}
use Rattle.cut_model.specs.Tree.{tree}
use Rattle.run_frame.specs.Forms.{answer_in, notice_in}
use Rattle.run_checks.proofs.CheckedBehind.{verifies_behind, verifies_none}
use Rattle.run_checks.proofs.RaisedBounds.{right_raises}
use Rattle.run_checks.proofs.checking_behind.verify_behind.Goals as goal

pub accepted_with-requires : goal.accepted_with-requires
accepted_with-requires g c =
    let is = c.in-Ok.ensures.accepted in
    let found = c.in-Ok.checked in
    subst (λ (more : ℕ). IfSome found.certificate.bound (λ n. more + n < 2 ^ 64)) (sym c.frozen_loss-more.ensures)
    (right_raises c.args.ground.instance.now (tree found.plan) c.args.k found.certificate c.items-items.ensures.rules is.1.lawful is.1.fewer (is.0, is.1.rest_is, is.1.good))

pub returns-in_ok-notice-in-Ok : goal.returns-in_ok-notice-in-Ok
returns-in_ok-notice-in-Ok g c = λ names.
    verifies_behind c.args.ground.instance.now c.args.k c.frozen_loss-more.result c.args.plan_text.now c.args.cert_text.now (tree c.in-Ok.checked.plan) c.in-Ok.checked.certificate (answer_in names c.reply_with.result)
    (notice_in c.in_ok-notice-in-Ok.notice) c.in-Ok.ensures.accepted c.frozen_loss-more.ensures (c.reply_with.ensures names) c.in_ok-notice-in-Ok.ensures

pub returns-in-Err : goal.returns-in-Err
returns-in-Err g c =
    IfOk-weaker c.reply_at.result _ _
    (λ r told names. verifies_none c.args.ground.instance.now c.args.k c.args.plan_text.now c.args.cert_text.now (answer_in names r) c.in-Err.stop c.in-Err.ensures.accepted (told names)) c.reply_at.ensures
