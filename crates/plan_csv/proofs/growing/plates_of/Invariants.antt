use Rattle.cut_model.specs.declared.family.Sort.{Sort}
use Rattle.cut_model.specs.Tree.{strips}
use Rattle.plan_csv.specs.inner.ReadNodes.{below}
use Rattle.plan_csv.proofs.GrownPieces.{Growing}
use Rattle.plan_csv.proofs.growing.plates_of.Given as goal

abbrev pub invariant-loop-row : goal.invariant-loop-row
invariant-loop-row l = Growing (λ p. 0) (λ p. Sort.Branch) (λ p. strips p.pieces.items) (below 4 l.nodes.rows.items) l.rows l.row-index l.plates.items
