use Rattle.std.proofs.Common.{ℕ, ◌≤◌}
use Rattle.front_bound.specs.inner.Clear.{Covered, IsFree}
use Rattle.front_bound.proofs.places.least_places.Given as goal

abbrev pub invariant-loop : goal.invariant-loop
invariant-loop l = (left low : ℕ) → l.x ≤ left → l.y ≤ low → IsFree l.holes l.piece left low → Covered l.lists.found.items left low
