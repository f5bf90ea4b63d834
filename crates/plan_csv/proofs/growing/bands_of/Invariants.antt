use Rattle.cut_model.specs.Tree.{inner2, sort2}
use Rattle.plan_csv.specs.inner.ReadNodes.{below}
use Rattle.plan_csv.proofs.GrownPieces.{Growing}
use Rattle.plan_csv.proofs.growing.bands_of.Given as goal

abbrev pub invariant-loop-row : goal.invariant-loop-row
invariant-loop-row l = Growing (λ p. p.height) (λ p. sort2 p.body) (λ p. inner2 p.body) (below 2 l.nodes.rows.items) l.rows l.row-index l.bands.items
