use Rattle.std.proofs.Common.{ℕ, ◌<◌, ◌≤◌}
use Rattle.front_table.specs.Widths.{wide_in}
use Rattle.front_table.proofs.bands.rises.Given as goal

abbrev pub invariant-loop-at : goal.invariant-loop-at
invariant-loop-at l = (i j : ℕ) → i ≤ j → j < l.at → wide_in l.bands i ≤ wide_in l.bands j
