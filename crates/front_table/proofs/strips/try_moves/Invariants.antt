use Rattle.std.proofs.Common.{ℕ, ◌<◌, get_or}
use Rattle.front_table.specs.declared.moves.Move.{Move}
use Rattle.front_table.specs.Packed.{unpacked_all}
use Rattle.front_table.specs.Pools.{Spreads}
use Rattle.front_table.specs.Tries.{BandTried}
use Rattle.front_table.proofs.strips.try_moves.Given as goal

abbrev pub invariant-loop-at : goal.invariant-loop-at
invariant-loop-at l = record {
  spreads : Spreads l.extension.view.below l.fn.pool l.pool;
  tried : (k : ℕ) (d : Move) → k < l.at → BandTried l.extension.search.now.fronts.rows.now l.extension.search.now.fronts.levels.now l.extension.search.now.limits l.pool l.extension.view.row l.extension.view.below l.extension.label.now l.extension.slack (get_or (unpacked_all l.bands) k d);
}
