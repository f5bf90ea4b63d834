use Rattle.std.proofs.Common.{rules}
use Rattle.glass_base.proofs.instance.refusal.Goals as goal

pub returns-in-Some : goal.returns-in-Some
returns-in-Some c = search rules
