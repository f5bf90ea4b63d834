use Rattle.glass_run.proofs.Headlines.{no_draft}
use Rattle.glass_run.proofs.laws.missing_drafts_are_true.Goals as goal

pub returns : goal.returns
returns c = no_draft
