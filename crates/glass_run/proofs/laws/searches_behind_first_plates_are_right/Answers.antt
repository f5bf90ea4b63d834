use Rattle.glass_run.proofs.FreezeHeadline.{freeze_ended}
use Rattle.glass_run.proofs.laws.searches_behind_first_plates_are_right.Goals as goal

pub returns : goal.returns
returns c words line held old new result end e = (freeze_ended words line held old new result end e).0
