use Rattle.std.proofs.Common.{ℕ, ◌<◌, get_or}
use Rattle.front_table.specs.declared.moves.Move.{Move}
use Rattle.front_table.proofs.lattice.lead_down.Given as goal

abbrev pub invariant-loop-next : goal.invariant-loop-next
invariant-loop-next l = (k : ℕ) (d : Move) → k < l.next-index → (get_or l.moves k d).to < l.row
