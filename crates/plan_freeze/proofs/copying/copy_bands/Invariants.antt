use Rattle.std.proofs.Common.{◌≡◌, take}
use Rattle.cut_model.specs.Tree.{bands}
use Rattle.plan_freeze.proofs.copying.copy_bands.Given as goal

abbrev pub invariant-loop-piece : goal.invariant-loop-piece
invariant-loop-piece l = bands l.copy.items ≡ bands (take l.piece-index l.pieces)
