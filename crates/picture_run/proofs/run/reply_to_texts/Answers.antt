use Rattle.std.proofs.Common.{◌∙◌}
use Rattle.std.proofs.lemmas.Result.{IfOk-weaker}
use Rattle.command_line.specs.declared.kinds.Product.TheVariants as product
use Rattle.run_frame.specs.Forms.{answer_in, texts_in}
use Rattle.picture_run.proofs.Drawn.{texts_drawn, texts_refused}
use Rattle.picture_run.proofs.run.reply_to_texts.Goals as goal

pub returns-in_ok-grounded-in-Ok : goal.returns-in_ok-grounded-in-Ok
returns-in_ok-grounded-in-Ok c =
    IfOk-weaker c.draw_text.result _ _
    (λ r h name. texts_drawn (texts_in c.args.texts.now) _ _ (name product.Picture) c.in-Ok.instance (answer_in name r) c.text_of_role.ensures c.text_or_empty.ensures c.in-Ok.ensures (h name))
    (rw (c.ground.ensures ∙ c.in_ok-grounded-in-Ok.ensures) at c.draw_text.ensures)

pub returns-in-Err : goal.returns-in-Err
returns-in-Err c =
    IfOk-weaker c.reply_at.result _ _
    (λ r h name. texts_refused (texts_in c.args.texts.now) _ (name product.Picture) c.in-Err.stop (answer_in name r) c.text_of_role.ensures c.in-Err.ensures (h name))
    c.reply_at.ensures
