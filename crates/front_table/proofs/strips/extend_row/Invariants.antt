use Rattle.std.proofs.Common.{ℕ, ◌<◌, get_or}
use Rattle.front_table.specs.declared.labels.FrontLabel.{FrontLabel}
use Rattle.front_table.specs.Packed.{unpacked_all}
use Rattle.front_table.specs.Pools.{Spreads, row_at}
use Rattle.front_table.specs.Tries.{Extended}
use Rattle.front_table.proofs.strips.extend_row.Given as goal

abbrev pub invariant-loop-at : goal.invariant-loop-at
invariant-loop-at l = record {
  spreads : Spreads l.view.below l.fn.pool l.pool;
  extended : (k : ℕ) (d : FrontLabel) → k < l.at → Extended l.search.fronts.rows.now l.search.fronts.levels.now l.search.limits l.pool l.view.row l.view.below (unpacked_all l.view.bands.now) l.view.ends.now (get_or (row_at l.fn.pool l.view.row) k d);
}
