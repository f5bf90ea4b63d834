use Rattle.std.proofs.Common.{◌≡◌, take}
use Rattle.best_board.proofs.copying.widths_of.Given as goal

abbrev pub invariant-loop-plate : goal.invariant-loop-plate
invariant-loop-plate l = l.widths.items ≡ take l.plate l.instance.widths
