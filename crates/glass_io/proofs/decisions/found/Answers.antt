use Rattle.std.proofs.Common.{rules}
use Rattle.glass_io.proofs.decisions.found.Goals as goal

pub returns-then-len-limit : goal.returns-then-len-limit
returns-then-len-limit c = search rules
