use Rattle.front_table.specs.Pools.{Spreads}
use Rattle.front_bound.proofs.runs.sort_level.Given as goal

abbrev pub invariant-loop-row : goal.invariant-loop-row
invariant-loop-row l = Spreads l.end l.fn.sides l.sides
