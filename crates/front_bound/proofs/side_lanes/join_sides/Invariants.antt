use Rattle.std.proofs.Common.{ℕ, ◌<◌}
use Rattle.front_table.specs.Pools.{HeldAt, Spreads}
use Rattle.front_bound.proofs.side_lanes.join_sides.Given as goal

abbrev pub invariant-loop-row : goal.invariant-loop-row
invariant-loop-row l = record {
  spreads : Spreads l.below l.fn.sides l.sides;
  held : (n : ℕ) → n < l.row → (x y : ℕ) → HeldAt l.offered n x y → HeldAt l.sides n x y;
}
