use Rattle.plan_draft.proofs.Complete.{draft_lawful}
use Rattle.plan_draft.proofs.laws.drafts_are_lawful.Goals as goal

pub returns : goal.returns
returns c = draft_lawful
