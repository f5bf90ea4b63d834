use Rattle.std.proofs.Common.{rules}
use Rattle.glass_io.proofs.system.StdSinkSink.write.Goals as goal

pub returns-then-is_err-clause-counts : goal.returns-then-is_err-clause-counts
returns-then-is_err-clause-counts g c = search rules

pub returns-else-is_err-clause-counts : goal.returns-else-is_err-clause-counts
returns-else-is_err-clause-counts g c = search rules
