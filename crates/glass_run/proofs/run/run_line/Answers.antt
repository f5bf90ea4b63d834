use Rattle.run_frame.specs.Forms.{answer_in}
use Rattle.command_line.specs.Lines.{line_in}
use Rattle.command_line.specs.Grammar.{stored_as}
use Rattle.run_frame.proofs.Endings.{answers_told, delivery_ends, fails_to_read, fault_ends}
use Rattle.glass_run.specs.Commands.{Answers}
use Rattle.glass_run.proofs.run.run_line.Goals as goal

pub returns-in-Ok-clause-runs : goal.returns-in-Ok-clause-runs
returns-in-Ok-clause-runs g c =
    let line = line_in c.args.line.now in
    delivery_ends Answers line _ _ _ _ _ (answer_in (stored_as line) c.in-Ok.reply) _ c.in-Ok.ensures.same c.in-Ok.ensures.faults
    (answers_told Answers _ line _ c.in-Ok.ensures.reply) c.in-Ok.reply.answered c.deliver.ensures.delivers

pub returns-in-Err-ReadFault-clause-runs : goal.returns-in-Err-ReadFault-clause-runs
returns-in-Err-ReadFault-clause-runs g c =
    let line = line_in c.args.line.now in
    fault_ends Answers line _ _ _ _ c.in-Err-ReadFault.role _
    (fails_to_read line _ _ _ _ _
    (rw c.in-Err-ReadFault.field-0-is at c.in-Err-ReadFault.ensures.reached)
    c.in-Err-ReadFault.ensures.same
    (rw c.in-Err-ReadFault.field-0-is at c.in-Err-ReadFault.ensures.faults))
    (rw (c.read_fault_line.ensures, c.in-Err-ReadFault.role-is) at c.print.ensures.ends)
