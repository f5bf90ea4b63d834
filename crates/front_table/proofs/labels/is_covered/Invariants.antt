use Rattle.front_table.proofs.labels.is_covered.Given as goal

abbrev pub invariant-loop-held : goal.invariant-loop-held
invariant-loop-held l = Unit {0}
