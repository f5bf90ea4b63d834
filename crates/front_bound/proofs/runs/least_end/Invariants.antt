use Rattle.std.proofs.Common.{ℕ, ◌+◌, ◌<◌, ◌≤◌, get_or}
use Rattle.glass_base.specs.Plates.{Before, Width}
use Rattle.plan_trace.specs.TraceRules.{Gap}
use Rattle.front_table.specs.declared.labels.FrontLabel.{FrontLabel}
use Rattle.front_table.specs.Sets.{Fits}
use Rattle.front_bound.proofs.runs.least_end.Given as goal

abbrev pub invariant-loop-side : goal.invariant-loop-side
invariant-loop-side l = record {
  most : l.least ≤ l.fn.most;
  ends : (k : ℕ) (d : FrontLabel) → k < l.side-index → (right plate : ℕ) → Fits (get_or l.sides k d) right plate → plate < l.instance.params.plates → Gap l.instance.params.waste right (Width l.instance plate) → l.least ≤ Before l.instance plate + right;
}
