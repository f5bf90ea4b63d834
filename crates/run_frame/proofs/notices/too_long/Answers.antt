use Rattle.std.proofs.Common.{rules}
use Rattle.run_frame.proofs.notices.too_long.Goals as goal

pub returns : goal.returns
returns c = search rules
