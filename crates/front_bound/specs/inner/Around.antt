-- What the walk over all rows goes by.
use Rattle.std.specs.Prelude.{◌≡◌, ℕ, ◌<◌, ◌≤◌, List, length, slice_index_or}
use Rattle.front_bound.specs.declared.nearby.Class.{Class}
use Rattle.front_bound.specs.declared.nearby.Space.{Space}
use Rattle.front_table.specs.declared.rows.FrontRow.{FrontRow}
use Rattle.front_table.specs.declared.fronts.Fronts.{Fronts}
use Rattle.glass_base.specs.declared.limits.TheConstants.{MOST_PLATES}

-- there are lists of labels for each row
pub record IsRoomy (rows : List FrontRow) (space : Space) : Type 0 where
  pub strips : length space.strips ≡ length rows
  pub near : length space.near ≡ length rows
  pub cells : length space.cells.pool ≡ length rows

-- a class is one of those that the fronts have, and of its strips those that have room are no wider than its bound
pub record IsClass (fronts : Fronts) (c : Class) : Type 0 where
  pub plate : c.plate ≤ MOST_PLATES
  pub class : c.limits.class < length fronts.tops.now
  pub top : c.limits.top ≡ slice_index_or fronts.tops.now c.limits.class 0
  pub height : c.limits.height ≡ fronts.instance.now.params.height
  pub bound : c.limits.bound ≤ c.limits.top
  pub narrow : c.limits.bound ≤ fronts.instance.now.params.max1
  pub fits : (w : ℕ) → w ≤ c.limits.top → w ≤ fronts.instance.now.params.max1 → w ≤ c.room → w ≤ c.limits.bound
