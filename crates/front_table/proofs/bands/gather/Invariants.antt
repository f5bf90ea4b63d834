use Rattle.std.proofs.Common.{ℕ, ◌<◌}
use Rattle.front_table.specs.Lattice.{Led}
use Rattle.front_table.specs.Pools.{HeldAt}
use Rattle.front_table.proofs.bands.gather.Given as goal

abbrev pub invariant-loop-row : goal.invariant-loop-row
invariant-loop-row l = (n x y : ℕ) → n < l.row → HeldAt l.fn.pool n x y → Led l.bands.items n y x
