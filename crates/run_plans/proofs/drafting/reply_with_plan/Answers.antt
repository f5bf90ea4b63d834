use Rattle.std.proofs.Common.{rules}
use Rattle.run_plans.proofs.drafting.reply_with_plan.Goals as goal

pub returns : goal.returns
returns c = search rules
