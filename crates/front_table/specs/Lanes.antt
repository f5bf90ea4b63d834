-- What lanes have made.
use Rattle.std.specs.Prelude.{◌≡◌, ℕ, List, All, Contains, None, length}
use Rattle.front_table.specs.declared.fronts.Fronts.{Fronts}
use Rattle.front_table.specs.declared.lanes.RowLane.{RowLane}
use Rattle.front_table.specs.declared.lanes.MadeRow.{MadeRow}
use Rattle.front_table.specs.Ready.{IsKnown}

-- a lane has a list of labels for each row
abbrev pub IsReady : ℕ → RowLane → Type 0
IsReady rows lane = length lane.pool ≡ rows

-- all is known of a row that was made, by those of which all was known before
abbrev pub IsMade : Fronts → MadeRow → Type 0
IsMade fronts m = IsKnown fronts.instance.now fronts.rows.now fronts.tops.now fronts.cover fronts.levels.now m.row m.facts

-- where a lane did not halt, all is known of what it made, and it is ready again
abbrev pub HasMade : Fronts → RowLane → Type 0
HasMade fronts lane = lane.halt ≡ None → IsReady (length fronts.rows.now) lane × All (IsMade fronts) lane.made.items

-- one of the lanes made this
unfoldable pub InLanes : List RowLane → MadeRow → Type 0
InLanes lanes m = (lane : RowLane) × Contains lanes lane × Contains lane.made.items m
