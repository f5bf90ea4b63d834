use Rattle.std.proofs.lemmas.Result.{IfOk-weaker}
use Rattle.command_line.specs.declared.kinds.Product.TheVariants as product
use Rattle.run_frame.specs.Forms.{answer_in}
use Rattle.run_search.proofs.Within.{resumes_stopped}
use Rattle.run_search.proofs.resuming.resume_texts.Goals as goal

pub returns-in-Err : goal.returns-in-Err
returns-in-Err g c =
    let options = c.args.workforce.now.options in
    IfOk-weaker c.reply_at.result _ _
    (λ r told names.
    resumes_stopped c.args.ground.instance.now _ c.args.cert_text.now options.budget options.fronts (names product.Plan) (names product.Certificate) (answer_in names r) c.in-Err.stop c.in-Err.ensures (told names))
    c.reply_at.ensures
