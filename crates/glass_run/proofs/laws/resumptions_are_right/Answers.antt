use Rattle.glass_run.proofs.ResumeHeadline.{resumption_ended}
use Rattle.glass_run.proofs.laws.resumptions_are_right.Goals as goal

pub returns : goal.returns
returns c words line held old new result end e = (resumption_ended words line held old new result end e).0
