use Rattle.front_bound.specs.inner.Clear.{AreHoles}
use Rattle.front_bound.proofs.holes.holes_of.Given as goal

abbrev pub invariant-loop-defect : goal.invariant-loop-defect
invariant-loop-defect l = AreHoles l.instance l.plate l.holes.items
