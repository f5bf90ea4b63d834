use Rattle.std.proofs.Common.{ℕ, ◌<◌, get_or, Contains}
use Rattle.front_table.specs.declared.labels.FrontLabel.{FrontLabel}
use Rattle.front_table.specs.declared.moves.Move.{Move}
use Rattle.front_table.specs.Sets.{Fits}
use Rattle.front_table.specs.Lattice.{Led}
use Rattle.front_table.proofs.bands.append.Given as goal

abbrev pub invariant-loop-label : goal.invariant-loop-label
invariant-loop-label l = record {
  kept : (m : Move) → Contains l.fn.moves.items m → Contains l.moves.items m;
  new : (k : ℕ) (d : FrontLabel) → k < l.label-index → (x y : ℕ) → Fits (get_or l.labels k d) x y → Led l.moves.items l.to x y;
}
