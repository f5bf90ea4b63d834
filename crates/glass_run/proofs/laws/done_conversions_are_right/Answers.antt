use Rattle.glass_run.proofs.CheckHeadlines.{done_conversion}
use Rattle.glass_run.proofs.laws.done_conversions_are_right.Goals as goal

pub returns : goal.returns
returns c = done_conversion
