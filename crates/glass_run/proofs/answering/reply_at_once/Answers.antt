use Rattle.std.proofs.Common.{subst, sym}
use Rattle.std.proofs.lemmas.Result.{IfOk-weaker}
use Rattle.run_frame.specs.Answers.{Answer}
use Rattle.command_line.specs.Grammar.{stored_as}
use Rattle.run_plans.specs.Judgements.{JudgesText}
use Rattle.run_plans.specs.Replays.{ReplaysText}
use Rattle.glass_base.specs.declared.role.Role.TheVariants as role
use Rattle.run_frame.specs.Texts.{text_or_empty}
use Rattle.command_line.specs.declared.kinds.Verb.TheVariants as verb
use Rattle.run_frame.specs.Forms.{answer_in, texts_in}
use Rattle.command_line.specs.Lines.{line_in}
use Rattle.glass_run.proofs.Given.{answers_as, convert_answers, replay_answers, sheet_answers, verify_answers}
use Rattle.glass_run.proofs.answering.reply_at_once.Goals as goal

pub returns-in-Draft : goal.returns-in-Draft
returns-in-Draft g c =
    let line = line_in c.args.line.now in
    IfOk-weaker c.draft_instance.result _ _
    (λ r h. answers_as verb.Draft line (texts_in c.args.texts.now) c.args.ground.instance.now (answer_in (stored_as line) r) c.in-Draft.is (h (stored_as line))) c.draft_instance.ensures

pub returns-in_ok-notice-in-Judge : goal.returns-in_ok-notice-in-Judge
returns-in_ok-notice-in-Judge g c =
    let line = line_in c.args.line.now in
    answers_as verb.Judge line (texts_in c.args.texts.now) c.args.ground.instance.now (answer_in (stored_as line) c.reply_with.result) c.in-Judge.is
    (subst (λ (a : Answer). JudgesText c.args.ground.instance.now (text_or_empty (texts_in c.args.texts.now) role.Plan) a) (sym (c.reply_with.ensures (stored_as line)))
    (rw c.text_or_empty.ensures at c.in_ok-notice-in-Judge.ensures))

pub returns-in-Verify : goal.returns-in-Verify
returns-in-Verify g c =
    let line = line_in c.args.line.now in
    IfOk-weaker c.verify_from.result _ _
    (λ r h. verify_answers line (texts_in c.args.texts.now) c.args.ground.instance.now (answer_in (stored_as line) r) _ _ _ c.in-Verify.is c.text_of_role-plan.ensures c.text_or_empty-cert.ensures c.count-k.ensures.value (h (stored_as line)))
    c.verify_from.ensures

pub returns-in-Convert : goal.returns-in-Convert
returns-in-Convert g c =
    let line = line_in c.args.line.now in
    IfOk-weaker c.convert_texts.result _ _
    (λ r h. convert_answers line (texts_in c.args.texts.now) c.args.ground.instance.now (answer_in (stored_as line) r) _ _ c.in-Convert.is c.text_of_role-plan-in-Convert.ensures c.text_or_empty-cert-in-Convert.ensures (h (stored_as line)))
    c.convert_texts.ensures

pub returns-in-Sheet : goal.returns-in-Sheet
returns-in-Sheet g c =
    let line = line_in c.args.line.now in
    IfOk-weaker c.sheet_text.result _ _
    (λ r h. sheet_answers line (texts_in c.args.texts.now) c.args.ground.instance.now (answer_in (stored_as line) r) _ c.in-Sheet.is c.text_or_empty-in-Sheet.ensures (h (stored_as line)))
    c.sheet_text.ensures

pub returns-in_ok-notice-in-Replay : goal.returns-in_ok-notice-in-Replay
returns-in_ok-notice-in-Replay g c =
    let line = line_in c.args.line.now in
    let text = c.text_or_empty-in-Replay.ensures in
    replay_answers line (texts_in c.args.texts.now) c.args.ground.instance.now (answer_in (stored_as line) c.reply_with-in-Replay.result) c.text_or_empty-in-Replay.result.now c.in-Replay.is text
    (subst (λ (a : Answer). ReplaysText c.args.ground.instance.now c.text_or_empty-in-Replay.result.now a) (sym (c.reply_with-in-Replay.ensures (stored_as line))) c.in_ok-notice-in-Replay.ensures)
