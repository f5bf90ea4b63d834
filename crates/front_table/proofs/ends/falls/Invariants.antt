use Rattle.std.proofs.Common.{ℕ, ◌<◌, ◌≤◌}
use Rattle.front_table.specs.Ends.{area_of, to_go_of}
use Rattle.front_table.proofs.ends.falls.Given as goal

abbrev pub invariant-loop-at : goal.invariant-loop-at
invariant-loop-at l = (i j : ℕ) → i ≤ j → j < l.at → (area_of l.ends i ≤ area_of l.ends j) × (to_go_of l.ends j ≤ to_go_of l.ends i)
