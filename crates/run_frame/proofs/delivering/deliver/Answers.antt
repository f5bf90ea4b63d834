use Rattle.std.proofs.Common.{Err, ap, rules}
use Rattle.command_line.specs.Grammar.{stored_as}
use Rattle.command_line.specs.Lines.{line_in}
use Rattle.run_frame.proofs.Delivered.{all_delivered, cut_delivered, part_delivered}
use Rattle.run_frame.proofs.delivering.deliver.Goals as goal

pub returns-in-Ok-clause-delivers : goal.returns-in-Ok-clause-delivers
returns-in-Ok-clause-delivers g c =
    all_delivered (stored_as (line_in c.args.line.now)) c.args.reply.now c.as_slice.result.now c.as_str.result.now _ _ _ _ _ c.as_slice.ensures c.as_str.ensures.value c.in-Ok.ensures.stands c.in-Ok.ensures.counts c.print.ensures.ends

pub returns-in-Ok-clause-keeps : goal.returns-in-Ok-clause-keeps
returns-in-Ok-clause-keeps g c = search rules

pub returns-in-Err-Failed-clause-delivers : goal.returns-in-Err-Failed-clause-delivers
returns-in-Err-Failed-clause-delivers g c =
    cut_delivered (stored_as (line_in c.args.line.now)) c.args.reply.now c.as_slice.result.now _ _ _ c.as_slice.ensures (c.in-Err-Failed.ensures.failed (ap Err c.in-Err-Failed.field-0-is))
    (rw c.in-Err-Failed.field-0-is at c.in-Err-Failed.ensures.counts)

pub returns-in-Err-Failed-clause-keeps : goal.returns-in-Err-Failed-clause-keeps
returns-in-Err-Failed-clause-keeps g c = search rules

pub returns-in-Err-Memory-clause-delivers : goal.returns-in-Err-Memory-clause-delivers
returns-in-Err-Memory-clause-delivers g c =
    part_delivered (stored_as (line_in c.args.line.now)) c.args.reply.now c.as_slice.result.now _ _ _ c.as_slice.ensures (c.in-Err-Memory.ensures.memory (ap Err c.in-Err-Memory.field-0-is))
    (rw c.in-Err-Memory.field-0-is at c.in-Err-Memory.ensures.counts)

pub returns-in-Err-Memory-clause-keeps : goal.returns-in-Err-Memory-clause-keeps
returns-in-Err-Memory-clause-keeps g c = search rules
