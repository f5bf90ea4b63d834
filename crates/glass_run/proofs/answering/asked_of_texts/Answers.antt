use Rattle.std.proofs.Common.{subst, sym}
use Rattle.glass_base.specs.Problem.{Problem}
use Rattle.command_line.specs.Grammar.{stored_as}
use Rattle.command_line.specs.Lines.{line_in}
use Rattle.run_frame.specs.Forms.{answer_in, texts_in}
use Rattle.glass_run.specs.Commands.{HasInstance}
use Rattle.glass_run.proofs.Given.{said_instance}
use Rattle.glass_run.proofs.answering.asked_of_texts.Goals as goal

pub returns-then-searches-clause-asked : goal.returns-then-searches-clause-asked
returns-then-searches-clause-asked g c = λ answer answers.
    let line = line_in c.args.line.now in
    let texts = texts_in c.args.texts.items in
    said_instance line texts c.in_ok-grounded.grounded.instance answer
    (subst (λ (b : Problem). HasInstance line.verb line texts b) (sym c.in_ok-grounded.ensures) (rw c.as_slice.ensures at c.in-Ok.ensures)) answers

pub returns-clause-asked : goal.returns-clause-asked
returns-clause-asked g c =
    let line = line_in c.args.line.now in
    let texts = texts_in c.args.texts.items in
    said_instance line texts c.in_ok-grounded.grounded.instance (answer_in (stored_as line) c.in_ok-reply.reply)
    (subst (λ (b : Problem). HasInstance line.verb line texts b) (sym c.in_ok-grounded.ensures) (rw c.as_slice.ensures at c.in-Ok.ensures))
    (rw c.ground.ensures at (rw c.as_slice-2.ensures at c.in_ok-reply.ensures))
