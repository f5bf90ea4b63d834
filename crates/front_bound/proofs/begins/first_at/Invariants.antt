use Rattle.std.proofs.Common.{ℕ, ◌<◌, ◌≤◌, get_or}
use Rattle.front_table.specs.declared.labels.FrontLabel.{FrontLabel}
use Rattle.front_table.specs.Sets.{Fits}
use Rattle.front_bound.proofs.begins.first_at.Given as goal

abbrev pub invariant-loop-begin : goal.invariant-loop-begin
invariant-loop-begin l = (k : ℕ) (d : FrontLabel) → k < l.begin-index → (from : ℕ) → Fits (get_or l.begins k d) from l.plate → l.least ≤ from
