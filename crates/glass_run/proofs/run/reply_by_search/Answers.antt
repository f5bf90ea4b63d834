use Rattle.std.proofs.lemmas.Result.{IfOk-weaker}
use Rattle.command_line.specs.Grammar.{stored_as}
use Rattle.command_line.specs.Lines.{line_in}
use Rattle.run_frame.specs.Forms.{answer_in, texts_in}
use Rattle.command_line.specs.declared.kinds.Verb.TheVariants as verb
use Rattle.glass_run.proofs.Given.{answers_as, plan_answers, resume_answers}
use Rattle.glass_run.proofs.run.reply_by_search.Goals as goal

pub returns-in-Resume : goal.returns-in-Resume
returns-in-Resume g c =
    let line = line_in c.args.line.now in
    IfOk-weaker c.resume_texts.result _ _
    (λ r h. resume_answers line (texts_in c.args.texts.now) c.args.ground.instance.now (answer_in (stored_as line) r) _ _ _ _ c.in-Resume.is c.text_of_role-plan.ensures c.text_or_empty-cert.ensures c.of-options.ensures.budget c.of-options.ensures.fronts (h (stored_as line)))
    c.resume_texts.ensures

pub returns-in-Plan : goal.returns-in-Plan
returns-in-Plan g c =
    let line = line_in c.args.line.now in
    let texts = texts_in c.args.texts.now in
    let b = c.args.ground.instance.now in
    IfOk-weaker c.plan_instance.result _ _
    (λ r h.
    answers_as verb.Plan line texts b (answer_in (stored_as line) r) c.in-Plan.is
    (plan_answers line texts b (answer_in (stored_as line) r) _ _ _ _ c.text_of_role-plan.ensures c.of-options.ensures.budget c.of-options.ensures.watch c.of-options.ensures.fronts (h (stored_as line))))
    c.plan_instance.ensures

pub returns-in-Gen : goal.returns-in-Gen
returns-in-Gen g c =
    let line = line_in c.args.line.now in
    let texts = texts_in c.args.texts.now in
    let b = c.args.ground.instance.now in
    IfOk-weaker c.plan_instance-in-Gen.result _ _
    (λ r h.
    answers_as verb.Gen line texts b (answer_in (stored_as line) r) c.in-Gen.is
    (plan_answers line texts b (answer_in (stored_as line) r) _ _ _ _ c.text_of_role-plan.ensures c.of-options.ensures.budget c.of-options.ensures.watch c.of-options.ensures.fronts (h (stored_as line))))
    c.plan_instance-in-Gen.ensures
