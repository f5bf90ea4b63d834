use Rattle.front_table.proofs.lattice.led.Given as goal

abbrev pub invariant-loop-next : goal.invariant-loop-next
invariant-loop-next l = Unit {0}
