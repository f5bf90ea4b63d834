use Rattle.std.proofs.Common.{ℕ, ◌<◌, get_or}
use Rattle.front_table.specs.declared.moves.Move.{Move}
use Rattle.front_table.specs.Pools.{Joined, Spreads}
use Rattle.front_table.proofs.search.join_all.Given as goal

abbrev pub invariant-loop-next : goal.invariant-loop-next
invariant-loop-next l = record {
  spreads : Spreads l.row l.fn.pool l.pool;
  joined : (k : ℕ) (d : Move) → k < l.next-index → Joined l.within.along l.within.across l.pool l.label (get_or l.moves k d);
}
