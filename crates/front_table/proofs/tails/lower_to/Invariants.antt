use Rattle.std.proofs.Common.{◌≡◌, ℕ, ◌<◌, ◌≤◌, length}
use Rattle.front_table.specs.Tails.{IsLower, tail_at}
use Rattle.front_table.proofs.tails.lower_to.Given as goal

abbrev pub invariant-loop-at : goal.invariant-loop-at
invariant-loop-at l = record {
  len : length l.tails ≡ length l.fn.tails;
  lower : IsLower l.tails l.fn.tails;
  to : (k : ℕ) → k < l.at → tail_at l.tails k ≤ l.most;
}
