use Rattle.std.proofs.Common.{map, arith}
use Rattle.front_table.proofs.PoolRows.{rows_len, span_whole}
use Rattle.front_table.proofs.pools.LabelPool.new.Goals as goal

pub invariant_of-result : goal.invariant_of-result
invariant_of-result c = span_whole (map (λ r. r.items) c.loop.all.items) c.args.rows (omega (arith, rows_len c.loop.all.items (λ r. r.items), c.loop.invariant, c.loop-test.false))
