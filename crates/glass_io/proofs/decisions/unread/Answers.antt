use Rattle.std.proofs.Common.{rules}
use Rattle.glass_io.proofs.decisions.unread.Goals as goal

pub returns-in_default : goal.returns-in_default
returns-in_default c = search rules
