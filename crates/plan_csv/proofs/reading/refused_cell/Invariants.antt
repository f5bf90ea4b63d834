use Rattle.std.proofs.Common.{◌≡◌, ◌+◌, drop}
use Rattle.plan_csv.specs.PlanTexts.{cell_refusal}
use Rattle.plan_csv.proofs.reading.refused_cell.Given as goal

abbrev pub invariant-loop-place : goal.invariant-loop-place
invariant-loop-place l =
    cell_refusal l.nodes.rows.items (l.place + 2) (drop l.place l.row-items) ≡ cell_refusal l.nodes.rows.items 2 l.nodes.rows.items
