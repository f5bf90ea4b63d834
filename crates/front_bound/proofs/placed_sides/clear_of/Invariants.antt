use Rattle.std.proofs.Common.{ℕ, ◌<◌, ◌≤◌}
use Rattle.front_bound.specs.inner.Clear.{LineClear}
use Rattle.front_table.specs.Sets.{Has}
use Rattle.front_bound.proofs.placed_sides.clear_of.Given as goal

abbrev pub invariant-loop : goal.invariant-loop
invariant-loop l = (right : ℕ) → Has l.fn.sides right → right ≤ l.width → (right < l.width → LineClear l.holes l.height right) → Has l.clear right
