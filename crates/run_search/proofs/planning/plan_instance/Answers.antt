use Rattle.std.proofs.lemmas.Result.{IfOk-weaker}
use Rattle.command_line.specs.declared.kinds.Product.TheVariants as product
use Rattle.run_frame.specs.Forms.{answer_in}
use Rattle.run_search.proofs.Within.{plans_stopped}
use Rattle.run_search.proofs.planning.plan_instance.Goals as goal

pub returns-in-Err : goal.returns-in-Err
returns-in-Err g c =
    let options = c.args.workforce.now.options in
    IfOk-weaker c.reply_at.result _ _
    (λ r told names.
    plans_stopped c.args.ground.instance.now options.budget options.watch options.fronts _ (names product.Plan) (names product.Certificate) (answer_in names r) c.in-Err.stop c.in-Err.ensures (told names))
    c.reply_at.ensures
