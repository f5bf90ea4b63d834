use Rattle.std.proofs.Common.{ℕ, ◌<◌, get_or}
use Rattle.front_table.specs.declared.moves.Move.{Move}
use Rattle.front_table.specs.Tails.{AreBehindBand}
use Rattle.front_table.proofs.tails.lower_by_bands.Given as goal

abbrev pub invariant-loop-at : goal.invariant-loop-at
invariant-loop-at l = (k : ℕ) (d : Move) → k < l.at → AreBehindBand l.tails l.levels l.class l.unit (get_or l.bands k d)
