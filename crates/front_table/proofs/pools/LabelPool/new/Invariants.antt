use Rattle.std.proofs.Common.{◌≡◌, length}
use Rattle.front_table.proofs.pools.LabelPool.new.Given as goal

abbrev pub invariant-loop : goal.invariant-loop
invariant-loop l = length l.all.items ≡ l.counter
