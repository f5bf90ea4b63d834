use Rattle.plan_draft.proofs.Complete.{draft_complete}
use Rattle.plan_draft.proofs.laws.drafts_are_complete.Goals as goal

pub returns : goal.returns
returns c = draft_complete
