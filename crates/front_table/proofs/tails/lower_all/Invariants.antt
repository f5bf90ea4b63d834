use Rattle.front_table.proofs.StackTails.{LoweredTo}
use Rattle.front_table.proofs.tails.lower_all.Given as goal

abbrev pub invariant-loop-class : goal.invariant-loop-class
invariant-loop-class l = LoweredTo l.all l.fn.all l.most l.class
