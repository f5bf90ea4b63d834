use Rattle.std.proofs.Common.{rules}
use Rattle.glass_io.proofs.decisions.is_still.Goals as goal

pub returns : goal.returns
returns c = search rules
