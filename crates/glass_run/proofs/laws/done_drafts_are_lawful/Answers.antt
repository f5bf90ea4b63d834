use Rattle.glass_run.proofs.Headlines.{done_draft}
use Rattle.glass_run.proofs.laws.done_drafts_are_lawful.Goals as goal

pub returns : goal.returns
returns c = done_draft
