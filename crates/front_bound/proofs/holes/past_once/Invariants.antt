use Rattle.std.proofs.Common.{ℕ, ◌<◌, ◌≤◌}
use Rattle.front_bound.specs.inner.Clear.{LineClear}
use Rattle.front_bound.proofs.holes.past_once.Given as goal

abbrev pub invariant-loop-hole : goal.invariant-loop-hole
invariant-loop-hole l = record {
  within : l.least ≤ l.width;
  least : (right : ℕ) → l.side ≤ right → right ≤ l.width → (right < l.width → LineClear l.holes l.height right) → l.least ≤ right;
}
