use Rattle.std.proofs.Common.{ℕ, ◌<◌, get_or}
use Rattle.front_table.specs.declared.labels.FrontLabel.{FrontLabel}
use Rattle.front_table.specs.Sets.{Fits, Held}
use Rattle.front_table.proofs.bands.offer_bands.Given as goal

abbrev pub invariant-loop-label : goal.invariant-loop-label
invariant-loop-label l = (k : ℕ) (d : FrontLabel) → k < l.label-index → (x y : ℕ) → Fits (get_or l.labels k d) x y → Held l.thinned.items y x
