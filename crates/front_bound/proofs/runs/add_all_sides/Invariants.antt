use Rattle.std.proofs.Common.{◌≡◌, ℕ, ◌<◌, ◌≤◌, All, length}
use Rattle.front_bound.specs.inner.SideLanes.{HasRoom}
use Rattle.front_table.specs.Levels.{to_go_at}
use Rattle.front_table.specs.Pools.{Spreads}
use Rattle.front_bound.specs.Sides.{SidesGoOn}
use Rattle.front_bound.proofs.runs.add_all_sides.Given as goal

abbrev pub invariant-loop-rest : goal.invariant-loop-rest
invariant-loop-rest g l = record {
  begun : 1 ≤ l.rest.end;
  inside : l.rest.end ≤ length l.fronts.rows.now;
  some : 1 ≤ length l.lanes;
  room : All (HasRoom l.fronts.rows.now) l.lanes;
  spreads : Spreads (length l.fronts.rows.now) l.fn.sides l.sides;
  goes_on : (n : ℕ) → l.rest.end ≤ n → n < length l.fronts.rows.now → SidesGoOn l.fronts.instance.now l.fronts.rows.now (to_go_at l.fronts.levels.now) l.most l.sides n;
}

abbrev pub decreases-loop-rest : goal.decreases-loop-rest
decreases-loop-rest g l = l.rest.end
