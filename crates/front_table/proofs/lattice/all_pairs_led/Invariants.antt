use Rattle.std.proofs.Common.{ℕ, ◌<◌}
use Rattle.front_table.specs.Lattice.{AllPairsLed}
use Rattle.front_table.proofs.lattice.all_pairs_led.Given as goal

abbrev pub invariant-loop-other : goal.invariant-loop-other
invariant-loop-other l = (k : ℕ) → k < l.other → AllPairsLed l.fn.instance l.fn.rows l.fn.moves l.fn.item l.fn.mid k
