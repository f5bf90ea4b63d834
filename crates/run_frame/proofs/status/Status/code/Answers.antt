use Rattle.std.proofs.Common.{rules}
use Rattle.run_frame.proofs.status.Status.code.Goals as goal

pub returns-in-Memory : goal.returns-in-Memory
returns-in-Memory c = search rules

pub returns-in-WriteFault : goal.returns-in-WriteFault
returns-in-WriteFault c = search rules
