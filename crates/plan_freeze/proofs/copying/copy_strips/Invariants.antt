use Rattle.std.proofs.Common.{◌≡◌, take}
use Rattle.cut_model.specs.Tree.{strips}
use Rattle.plan_freeze.proofs.copying.copy_strips.Given as goal

abbrev pub invariant-loop-piece : goal.invariant-loop-piece
invariant-loop-piece l = strips l.copy.items ≡ strips (take l.piece-index l.pieces)
