use Rattle.std.proofs.Common.{arith}
use Rattle.std.proofs.lemmas.Option.{get_or_from_slice_get}
use Rattle.defect_map.proofs.ColumnLemmas.{all_more}
use Rattle.defect_map.proofs.columns.columns_of.Goals as goal

pub loop-position-preserved : goal.loop-position-preserved
loop-position-preserved c =
    all_more c.args.defects.now c.loop-position.columns.items _ c.loop-position.position c.loop-position.invariant c.in_ok-put_across.ensures.kept
    (λ d at. rw (get_or_from_slice_get _ _ _ _ at) at c.in_ok-put_across.ensures.stands)

pub returns : goal.returns
returns c = λ position d below at. c.loop-position.invariant position d (omega (arith, below)) at
