use Rattle.glass_run.proofs.CheckHeadlines.{done_check}
use Rattle.glass_run.proofs.laws.done_checks_are_right.Goals as goal

pub returns : goal.returns
returns c = done_check
