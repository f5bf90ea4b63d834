use Rattle.std.proofs.Common.{rules}
use Rattle.plan_csv.proofs.fields.level_at.Goals as goal

pub returns : goal.returns
returns c = search rules
