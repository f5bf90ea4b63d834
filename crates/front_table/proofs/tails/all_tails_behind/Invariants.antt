use Rattle.front_table.specs.Tails.{AllBehind}
use Rattle.front_table.proofs.tails.all_tails_behind.Given as goal

abbrev pub invariant-loop-class : goal.invariant-loop-class
invariant-loop-class l = AllBehind l.all.items l.levels l.bands l.tops l.unit l.class
