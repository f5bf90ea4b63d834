use Rattle.std.proofs.Common.{ℕ, ◌+◌, ◌<◌, ◌≤◌}
use Rattle.front_table.specs.Levels.{to_go_at}
use Rattle.front_table.specs.Pools.{HeldAt}
use Rattle.front_table.proofs.far.least_end.Given as goal

abbrev pub invariant-loop-row : goal.invariant-loop-row
invariant-loop-row l = (m w : ℕ) → m < l.row → HeldAt l.fn.pool m l.height w → l.least ≤ w + to_go_at l.levels m
