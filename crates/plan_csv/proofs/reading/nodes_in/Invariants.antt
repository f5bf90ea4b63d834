use Rattle.std.proofs.Common.{◌≡◌, ◌≤◌, ◌+◌, [], drop, length, max}
use Rattle.plan_csv.specs.PlanTexts.{rows_behind}
use Rattle.plan_csv.specs.inner.ReadNodes.{AreNodes}
use Rattle.plan_csv.proofs.reading.nodes_in.Given as goal

abbrev pub decreases-rows : goal.decreases-rows
decreases-rows l = length l.rows

abbrev pub invariant-rows : goal.invariant-rows
invariant-rows l = record {
  same : rows_behind l.fn.instance (l.row + 1) l.nodes.rows.items l.rows ≡ rows_behind l.fn.instance 2 [] (drop 1 l.fn.rows);
  nodes_are : AreNodes l.nodes;
  few : l.row + length l.rows ≤ max 1 (length l.fn.rows);
}
