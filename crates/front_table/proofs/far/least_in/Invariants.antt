use Rattle.std.proofs.Common.{ℕ, ◌+◌, ◌<◌, ◌≤◌, get_or}
use Rattle.front_table.specs.declared.labels.FrontLabel.{FrontLabel}
use Rattle.front_table.specs.Sets.{Fits}
use Rattle.front_table.proofs.far.least_in.Given as goal

abbrev pub invariant-loop-label : goal.invariant-loop-label
invariant-loop-label l = record {
  found : l.least ≤ l.fn.found;
  labels : (k : ℕ) (d : FrontLabel) → k < l.label-index → (w : ℕ) → Fits (get_or l.labels k d) l.height w → l.least ≤ w + l.to_go;
}
