use Rattle.std.proofs.Common.{ℕ, ◌<◌, get_or, length}
use Rattle.front_table.specs.Lattice.{links_at}
use Rattle.front_table.specs.Levels.{Gathered}
use Rattle.front_table.proofs.stairs.gather_ends.Given as goal

abbrev pub invariant-loop-to : goal.invariant-loop-to
invariant-loop-to l = (k d : ℕ) → k < l.to-index → get_or (links_at l.fronts.rows.now l.row) k d < length l.fronts.levels.now → Gathered l.fronts.rows.now l.fronts.levels.now l.row l.fronts.cover l.all.items (get_or (links_at l.fronts.rows.now l.row) k d)
