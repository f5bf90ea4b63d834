use Rattle.std.proofs.Common.{rules}
use Rattle.run_plans.proofs.judging.lawful_notice.Goals as goal

pub returns : goal.returns
returns c = search rules
