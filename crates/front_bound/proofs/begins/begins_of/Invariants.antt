use Rattle.std.proofs.Common.{ℕ, ◌<◌, get_or}
use Rattle.front_table.specs.declared.labels.FrontLabel.{FrontLabel}
use Rattle.front_table.specs.Sets.{Fits, Held}
use Rattle.front_bound.specs.Sides.{NextHeld}
use Rattle.front_bound.proofs.begins.begins_of.Given as goal

abbrev pub invariant-loop-side : goal.invariant-loop-side
invariant-loop-side l = record {
  own : (k : ℕ) (d : FrontLabel) → k < l.side-index → (from plate : ℕ) → Fits (get_or l.sides k d) from plate → Held l.begins.items from plate;
  next : (k : ℕ) (d : FrontLabel) → k < l.side-index → (from plate : ℕ) → Fits (get_or l.sides k d) from plate → NextHeld l.instance l.far l.most l.begins.items from plate;
}
