use Rattle.cut_model.specs.Tree.{inner1, sort1}
use Rattle.plan_csv.specs.inner.ReadNodes.{below}
use Rattle.plan_csv.proofs.GrownPieces.{Growing}
use Rattle.plan_csv.proofs.growing.strips_of.Given as goal

abbrev pub invariant-loop-row : goal.invariant-loop-row
invariant-loop-row l = Growing (λ p. p.width) (λ p. sort1 p.body) (λ p. inner1 p.body) (below 3 l.nodes.rows.items) l.rows l.row-index l.strips.items
