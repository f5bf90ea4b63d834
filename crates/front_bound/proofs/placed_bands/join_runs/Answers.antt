use Rattle.std.proofs.Common.{◌+◌, get_or, arith}
use Rattle.front_table.specs.declared.labels.FrontLabel.{FrontLabel}
use Rattle.front_bound.specs.inner.Placed.{RunJoined}
use Rattle.front_table.proofs.Each.{up_to}
use Rattle.front_table.proofs.PoolRows.{spreads_then}
use Rattle.front_bound.proofs.PlacedRows.{run_kept, runs_joined}
use Rattle.front_bound.proofs.placed_bands.join_runs.Goals as goal

pub loop-cells-preserved : goal.loop-cells-preserved
loop-cells-preserved c = record {
  spreads = spreads_then (c.args.to + 1) c.args.pool.now c.loop-cells.pool c.join_run.new.pool c.loop-cells.invariant.spreads c.in_ok-join_run.ensures.spreads;
  joined = up_to (λ (l : FrontLabel). RunJoined c.args.onward.now.stretch.now c.join_run.new.pool c.args.onward.now.row c.args.onward.now.label.now c.args.to l) c.args.runs.now c.loop-cells.cells-index _ c.loop-cells-test.true
      (λ k d lt. run_kept c.args.onward.now.stretch.now (c.args.to + 1) c.loop-cells.pool c.join_run.new.pool c.in_ok-join_run.ensures.spreads c.args.onward.now.row c.args.onward.now.label.now c.args.to (get_or c.args.runs.now k d) (c.loop-cells.invariant.joined k d lt))
      c.in_ok-join_run.ensures.joined;
}

pub returns-clause-joined : goal.returns-clause-joined
returns-clause-joined c = runs_joined c.args.onward.now.stretch.now c.loop-cells.pool c.args.onward.now.row c.args.onward.now.label.now c.args.to c.args.runs.now (λ k d lt. c.loop-cells.invariant.joined k d (omega (arith, lt, c.loop-cells-test.false)))
