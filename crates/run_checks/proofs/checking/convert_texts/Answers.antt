use Rattle.std.specs.Prelude.{option_map}
use Rattle.std.proofs.lemmas.Result.{IfOk-weaker}
use Rattle.cut_model.specs.Tree.{tree}
use Rattle.run_frame.specs.Forms.{answer_in}
use Rattle.run_checks.proofs.Accepting.{converts, converts_none}
use Rattle.run_checks.proofs.checking.convert_texts.Goals as goal

pub returns-in-Err : goal.returns-in-Err
returns-in-Err g c =
    IfOk-weaker c.reply_at.result _ _ (λ r told names. converts_none c.args.ground.instance.now _ c.args.cert_text.now _ (answer_in names r) c.in-Err.stop c.in-Err.ensures.accepted (told names)) c.reply_at.ensures

pub returns : goal.returns
returns g c =
    IfOk-weaker c.convert.result _ _
    (λ r named names. converts c.args.ground.instance.now _ c.args.cert_text.now _ (answer_in names r) c.in-Ok.accepted.certificate named.0 (option_map tree c.in-Ok.accepted.plan, c.in-Ok.ensures.accepted) named.1 (named.2 names)) c.convert.ensures
