use Rattle.glass_run.proofs.ResumeHeadline.{resumption_ended}
use Rattle.glass_run.proofs.laws.resumptions_handle_each_box_once.Goals as goal

pub returns : goal.returns
returns c words line held old new result end e = (resumption_ended words line held old new result end e).1
