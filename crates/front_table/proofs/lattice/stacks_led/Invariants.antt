use Rattle.std.proofs.Common.{ℕ, ◌<◌}
use Rattle.front_table.specs.Lattice.{StackLed}
use Rattle.front_table.proofs.lattice.stacks_led.Given as goal

abbrev pub invariant-loop-stack : goal.invariant-loop-stack
invariant-loop-stack l = (k : ℕ) → k < l.stack → StackLed l.fn.instance l.fn.rows l.fn.row k
