use Rattle.std.proofs.Common.{◌≡◌, ℕ, ◌<◌, ◌≤◌, All, length}
use Rattle.front_table.specs.declared.lanes.MadeRow.{MadeRow}
use Rattle.front_table.specs.Lanes.{InLanes, IsReady}
use Rattle.front_table.specs.Levels.{to_go_at}
use Rattle.front_table.specs.Ready.{Built}
use Rattle.front_table.proofs.table.push_level_of.Given as goal

abbrev pub invariant-loop-at : goal.invariant-loop-at
invariant-loop-at l = record {
  len : length l.lanes ≡ length l.fn.lanes;
  more : length l.fn.levels.items ≤ length l.levels.items;
  same : (m : ℕ) → m < length l.fn.levels.items → to_go_at l.levels.items m ≡ to_go_at l.fn.levels.items m;
  ready : (rows : ℕ) → All (IsReady rows) l.fn.lanes → All (IsReady rows) l.lanes;
  made : (m : MadeRow) → InLanes l.lanes m → InLanes l.fn.lanes m;
  built : Built l.fronts.instance.now l.fronts.rows.now l.fronts.tops.now l.fronts.cover l.levels.items;
}
