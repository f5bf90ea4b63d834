use Rattle.defect_map.proofs.ColumnLemmas.{keeps_put}
use Rattle.defect_map.proofs.columns.put.Goals as goal

pub returns-clause-kept : goal.returns-clause-kept
returns-clause-kept c =
    rw (c.set-empty.ensures.new, c.set-column.ensures.new)
    (keeps_put _ c.reach.new.columns.items _ _ _ _ _ c.in_ok-reach.ensures.kept c.set-column.ensures.old c.in_ok-push.ensures.ok)
