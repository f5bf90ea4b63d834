use Rattle.std.proofs.Common.{◌≡◌, take}
use Rattle.plan_freeze.specs.Rests.{defects_from}
use Rattle.plan_freeze.proofs.resting.defects_from.Given as goal

abbrev pub invariant-loop-defect : goal.invariant-loop-defect
invariant-loop-defect l = l.left.items ≡ defects_from l.k (take l.defect-index l.defects)
