use Rattle.std.proofs.Common.{take}
use Rattle.best_board.specs.Improvements.{found_in}
use Rattle.best_board.proofs.Gathering.{Gathers}
use Rattle.best_board.proofs.settling.put_between.Given as goal

abbrev pub invariant-loop-entry : goal.invariant-loop-entry
invariant-loop-entry l = Gathers l.ground.instance.now l.between.most l.between.least (take l.entry-index l.entries) (found_in l.initial.list.items) (found_in l.list.items)
