use Rattle.std.proofs.Common.{◌≡◌, length}
use Rattle.front_table.specs.Levels.{to_go_at}
use Rattle.front_table.specs.Ready.{LeastBelow}
use Rattle.front_table.proofs.far.least_strip.Given as goal

abbrev pub invariant-loop-class : goal.invariant-loop-class
invariant-loop-class l = record {
  len : length l.pool ≡ length l.fn.pool;
  least : LeastBelow l.fn.behind.fronts.instance.now l.fn.behind.fronts.rows.now (to_go_at l.fn.behind.fronts.levels.now) l.fn.behind.start l.low l.fn.limit l.found;
}
