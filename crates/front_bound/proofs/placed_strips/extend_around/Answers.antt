use Rattle.std.proofs.Common.{inr, arith}
use Rattle.front_bound.proofs.PlacedRows.{slack_more}
use Rattle.front_bound.proofs.placed_strips.extend_around.Goals as goal

pub returns-clause-extended : goal.returns-clause-extended
returns-clause-extended c = inr (record {
  sought = c.in_ok-sought.sought;
  cells = c.cells_above.new.cells.pool;
  are = c.in_ok-sought.ensures.are;
  low = c.in_ok-sought.ensures.low;
  slack = slack_more c.args.onward.now.stretch.now c.args.onward.now.row c.args.onward.now.label.now c.args.onward.now.slack c.in_ok-sought.sought.slack c.in_ok-sought.ensures.slack c.args.onward.now.lean;
  joined = c.in_ok-join_rows.ensures.joined;
})
