use Rattle.plan_draft.proofs.Ones.{drafts_one, draft_or_none, none_one}
use Rattle.plan_draft.proofs.laws.drafts_are_one.Goals as goal

pub returns-clause-one : goal.returns-clause-one
returns-clause-one c = drafts_one

pub returns-clause-none : goal.returns-clause-none
returns-clause-none c = draft_or_none

pub returns-clause-first : goal.returns-clause-first
returns-clause-first c = none_one
