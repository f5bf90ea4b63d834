use Rattle.glass_run.proofs.Headlines.{done_judgement}
use Rattle.glass_run.proofs.laws.done_judgements_are_lawful.Goals as goal

pub returns : goal.returns
returns c = done_judgement
