use Rattle.command_line.specs.Grammar.{stored_as}
use Rattle.command_line.specs.Lines.{line_in}
use Rattle.run_frame.specs.Forms.{answer_in}
use Rattle.run_frame.proofs.Endings.{answers_told, delivery_ends}
use Rattle.picture_run.specs.Pictures.{Answers}
use Rattle.picture_run.proofs.run.run_line.Goals as goal

pub returns-in-Ok-clause-runs : goal.returns-in-Ok-clause-runs
returns-in-Ok-clause-runs g c =
    let line = line_in c.args.line.now in
    delivery_ends Answers line _ _ _ _ _ (answer_in (stored_as line) c.in-Ok.reply) _ c.in-Ok.ensures.same c.in-Ok.ensures.faults
    (answers_told Answers _ line _ c.in-Ok.ensures.reply) c.in-Ok.reply.answered c.deliver.ensures.delivers
