-- What memory a hand has for the halves of a box.
use Rattle.std.specs.Prelude.{◌<◌, ◌≤◌, length}
use Rattle.plan_box.specs.Decisions.{decided}
use Rattle.plan_box.specs.Ranges.{PlainBox}
use Rattle.box_workers.specs.declared.spares.Spares.{Spares}

-- there is memory for both halves of a box, and a place for the box's own
pub record HasRoomFor (x : PlainBox) (s : Spares) : Type 0 where
  pub lower : length (decided x.ranges) < s.lower
  pub upper : length (decided x.ranges) < s.upper
  pub place : 1 ≤ s.kept.spare
