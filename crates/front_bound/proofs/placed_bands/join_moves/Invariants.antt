use Rattle.std.proofs.Common.{ℕ, ◌<◌, get_or}
use Rattle.front_table.specs.declared.moves.Move.{Move}
use Rattle.front_table.specs.Packed.{unpacked_all}
use Rattle.front_table.specs.Pools.{Spreads}
use Rattle.front_bound.specs.inner.Placed.{WasteJoined}
use Rattle.front_bound.proofs.placed_bands.join_moves.Given as goal

abbrev pub invariant-loop-at : goal.invariant-loop-at
invariant-loop-at l = record {
  spreads : Spreads l.onward.row l.fn.pool l.pool;
  joined : (k : ℕ) (d : Move) → k < l.at → WasteJoined l.onward.stretch.now l.pool l.onward.row l.onward.label.now l.onward.slack (get_or (unpacked_all l.bands) k d);
}
