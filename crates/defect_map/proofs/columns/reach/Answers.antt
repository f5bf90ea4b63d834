use Rattle.std.proofs.Common.{arith}
use Rattle.std.proofs.lemmas.Grind.{common_steps}
use Rattle.defect_map.proofs.ColumnLemmas.{keeps_append}
use Rattle.defect_map.proofs.columns.reach.Goals as goal

pub loop-preserved : goal.loop-preserved
loop-preserved c = record {
  many = grind (arith, common_steps);
  kept = rw c.in_ok-append.ensures.ok (keeps_append _ _ _ c.loop.invariant.kept);
}
