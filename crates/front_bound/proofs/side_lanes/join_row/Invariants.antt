use Rattle.std.proofs.Common.{ℕ, ◌+◌, ◌<◌, get_or}
use Rattle.front_table.specs.declared.labels.FrontLabel.{FrontLabel}
use Rattle.front_table.specs.Pools.{HeldAt, Spreads}
use Rattle.front_table.specs.Sets.{Fits}
use Rattle.front_bound.proofs.side_lanes.join_row.Given as goal

abbrev pub invariant-loop-side : goal.invariant-loop-side
invariant-loop-side l = record {
  spreads : Spreads (l.row + 1) l.fn.sides l.sides;
  held : (k : ℕ) (d : FrontLabel) → k < l.side-index → (x y : ℕ) → Fits (get_or l.offered k d) x y → HeldAt l.sides l.row x y;
}
