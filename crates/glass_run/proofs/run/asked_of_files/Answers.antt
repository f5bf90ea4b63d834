use Rattle.command_line.specs.Lines.{line_in}
use Rattle.run_frame.specs.Forms.{texts_in}
use Rattle.glass_run.proofs.Given.{with_texts}
use Rattle.glass_run.proofs.run.asked_of_files.Goals as goal

pub returns-in_ok-asked_of_texts-in-Ok-clause-asked : goal.returns-in_ok-asked_of_texts-in-Ok-clause-asked
returns-in_ok-asked_of_texts-in-Ok-clause-asked g c =
    with_texts _ (line_in c.args.line.now) (texts_in c.in-Ok.texts.items) _ (rw c.in-Ok.is at c.in_ok-texts.ensures.fetched) c.in_ok-asked_of_texts-in-Ok.ensures.asked
