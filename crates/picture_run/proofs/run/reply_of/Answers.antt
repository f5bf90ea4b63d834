use Rattle.command_line.specs.Grammar.{stored_as}
use Rattle.command_line.specs.Lines.{line_in}
use Rattle.run_frame.specs.Forms.{texts_in}
use Rattle.picture_run.proofs.Drawn.{with_texts}
use Rattle.picture_run.proofs.run.reply_of.Goals as goal

pub returns-in_ok-reply-in-Ok-clause-reply : goal.returns-in_ok-reply-in-Ok-clause-reply
returns-in_ok-reply-in-Ok-clause-reply g c =
    let line = line_in c.args.line.now in
    with_texts _ line (texts_in c.in-Ok.texts.items) _ (rw c.in-Ok.is at c.in_ok-texts.ensures.fetched) (rw c.as_slice.ensures at (c.in_ok-reply-in-Ok.ensures (stored_as line)))
