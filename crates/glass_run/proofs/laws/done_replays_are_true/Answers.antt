use Rattle.glass_run.proofs.SheetHeadline.{done_replay}
use Rattle.glass_run.proofs.laws.done_replays_are_true.Goals as goal

pub returns : goal.returns
returns c = done_replay
