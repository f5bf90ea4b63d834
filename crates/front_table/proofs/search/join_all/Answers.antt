use Rattle.std.proofs.Common.{get_or}
use Rattle.front_table.specs.Pools.{Joined}
use Rattle.front_table.proofs.Each.{up_to}
use Rattle.front_table.proofs.PoolRows.{spreads_then, spreads_from, joined_kept, leads_below}
use Rattle.front_table.proofs.search.join_all.Goals as goal

pub loop-next-preserved : goal.loop-next-preserved
loop-next-preserved c = record {
  spreads =
      spreads_then c.args.row c.args.pool.now c.loop-next.pool c.join.new.pool c.loop-next.invariant.spreads
      (spreads_from _ c.args.row c.loop-next.pool c.join.new.pool (leads_below c.args.moves.now c.args.row c.loop-next.next-index _ c.requires.down c.loop-next-test.true) c.in_ok-join.ensures.spreads);
  joined = up_to (Joined c.args.within.along c.args.within.across c.join.new.pool c.args.label.now) c.args.moves.now c.loop-next.next-index _ c.loop-next-test.true
      (λ k d lt. joined_kept c.args.within.along c.args.within.across _ c.loop-next.pool c.join.new.pool c.args.label.now (get_or c.args.moves.now k d) c.in_ok-join.ensures.spreads (c.loop-next.invariant.joined k d lt)) c.in_ok-join.ensures.joined;
}
