use Rattle.cut_model.specs.Tree.{inner3, sort3}
use Rattle.plan_csv.specs.inner.ReadNodes.{below}
use Rattle.plan_csv.proofs.GrownPieces.{Growing}
use Rattle.plan_csv.proofs.growing.cells_of.Given as goal

abbrev pub invariant-loop-row : goal.invariant-loop-row
invariant-loop-row l = Growing (λ p. p.width) (λ p. sort3 p.body) (λ p. inner3 p.body) (below 1 l.nodes.rows.items) l.rows l.row-index l.cells.items
