-- What lanes offer of the right sides of strips from a level of rows.
use Rattle.std.specs.Prelude.{◌≡◌, ℕ, ◌-◌, ◌%◌, ◌<◌, ◌≤◌, List, None, length}
use Rattle.front_bound.specs.declared.side_lanes.SideLane.{SideLane}
use Rattle.front_bound.specs.declared.side_level.SideLevel.{SideLevel}
use Rattle.front_bound.specs.inner.Around.{IsRoomy}
use Rattle.front_bound.specs.Sides.{RowGoesOn}
use Rattle.front_table.specs.declared.rows.FrontRow.{FrontRow}
use Rattle.front_table.specs.Levels.{to_go_at}
use Rattle.front_table.specs.Pools.{row_at}

-- a lane has lists of labels for each row
pub record HasRoom (rows : List FrontRow) (lane : SideLane) : Type 0 where
  pub space : IsRoomy rows lane.space
  pub offered : length lane.offered ≡ length rows

-- strips from a row of a level are held where they end, by what a lane offers
abbrev pub RowOffered : SideLevel → SideLane → ℕ → Type 0
RowOffered level lane n = RowGoesOn level.fronts.instance.now level.fronts.rows.now (to_go_at level.fronts.levels.now) level.most (row_at level.sides.now n) lane.offered n

-- a row of a level is that of the lane with this number
abbrev pub IsOwn : SideLevel → ℕ → ℕ → Type 0
IsOwn level number n = (n - level.first) % level.lanes ≡ number

-- so it is with each row of a lane, up to a row
abbrev pub OwnOffered : SideLevel → ℕ → SideLane → ℕ → Type 0
OwnOffered level number lane end = (n : ℕ) → level.first ≤ n → n < end → IsOwn level number n → RowOffered level lane n

-- where a lane did not halt, it has offered the right sides behind all of its rows, and has room again
abbrev pub HasOffered : SideLevel → ℕ → SideLane → Type 0
HasOffered level number lane = lane.halt ≡ None → HasRoom level.fronts.rows.now lane × OwnOffered level number lane level.end
