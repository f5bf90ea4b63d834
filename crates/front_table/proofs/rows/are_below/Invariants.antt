use Rattle.std.proofs.Common.{ℕ, ◌<◌, get_or}
use Rattle.front_table.proofs.rows.are_below.Given as goal

abbrev pub invariant-loop-to : goal.invariant-loop-to
invariant-loop-to l = (k d : ℕ) → k < l.to-index → get_or l.links k d < l.below
