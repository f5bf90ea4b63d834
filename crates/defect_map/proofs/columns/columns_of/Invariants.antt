use Rattle.defect_map.specs.inner.Columns.{AllStand}
use Rattle.defect_map.proofs.columns.columns_of.Given as goal

abbrev pub invariant-loop-position : goal.invariant-loop-position
invariant-loop-position l = AllStand l.defects l.columns.items l.position
