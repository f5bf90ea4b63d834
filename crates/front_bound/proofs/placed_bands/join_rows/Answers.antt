use Rattle.std.proofs.Common.{◌+◌, subst, arith}
use Rattle.front_bound.specs.inner.Placed.{RunsJoined}
use Rattle.front_table.specs.Pools.{row_at}
use Rattle.front_table.proofs.Each.{below_next}
use Rattle.front_table.proofs.PoolRows.{spreads_same, spreads_then, spreads_from}
use Rattle.front_bound.proofs.PlacedRows.{runs_kept, runs_none}
use Rattle.front_bound.proofs.placed_bands.join_rows.Goals as goal

pub loop-to-init : goal.loop-to-init
loop-to-init c = record {
  spreads = spreads_same c.args.onward.now.row c.args.pool.now;
  joined = λ n lt. runs_none c.args.onward.now.stretch.now c.args.pool.now c.args.onward.now.row c.args.onward.now.label.now n (row_at c.args.cells.now n) (c.low-low.ensures n lt);
}

pub loop-to-preserved : goal.loop-to-preserved
loop-to-preserved c = record {
  spreads = spreads_then c.args.onward.now.row c.args.pool.now c.loop-to.pool c.join_runs.new.pool c.loop-to.invariant.spreads
      (spreads_from (c.loop-to.to + 1) c.args.onward.now.row c.loop-to.pool c.join_runs.new.pool (omega (arith, c.loop-to-test.true)) c.in_ok-join_runs.ensures.spreads);
  joined = below_next (λ n. RunsJoined c.args.onward.now.stretch.now c.join_runs.new.pool c.args.onward.now.row c.args.onward.now.label.now n (row_at c.args.cells.now n)) c.loop-to.to
      (λ k before. runs_kept c.args.onward.now.stretch.now (c.loop-to.to + 1) c.loop-to.pool c.join_runs.new.pool c.in_ok-join_runs.ensures.spreads c.args.onward.now.row c.args.onward.now.label.now k (row_at c.args.cells.now k) (c.loop-to.invariant.joined k before))
      (subst (λ l. RunsJoined c.args.onward.now.stretch.now c.join_runs.new.pool c.args.onward.now.row c.args.onward.now.label.now c.loop-to.to l) c.labels.ensures c.in_ok-join_runs.ensures.joined);
}
