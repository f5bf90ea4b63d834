use Rattle.std.proofs.Common.{ℕ, ◌+◌, ◌<◌, ◌≤◌, get_or}
use Rattle.front_bound.specs.declared.places.Corner.{Corner}
use Rattle.front_table.specs.Pools.{Spreads, row_at}
use Rattle.front_table.specs.Sets.{HeldTo, Stands}
use Rattle.front_bound.proofs.placed_cells.join_places.Given as goal

abbrev pub invariant-loop-place : goal.invariant-loop-place
invariant-loop-place l = record {
  spreads : Spreads (l.to + 1) l.fn.pool l.pool;
  held : (k : ℕ) (d : Corner) → k < l.place-index → (x y left low top next : ℕ) → Stands l.joined x y next top → (get_or l.places k d).x ≤ left → left + l.piece.wide ≤ next → (get_or l.places k d).y ≤ low → low + l.piece.high ≤ top → HeldTo (row_at l.pool l.to) x y next top;
}
