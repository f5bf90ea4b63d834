-- The frame of an instance: what the full ranges of its boxes come from.
use Rattle.std.specs.Prelude.{◌≤◌, length}
use Rattle.glass_base.specs.Plates.{Widest}
use Rattle.glass_base.specs.Problem.{Problem}
use Rattle.plan_box.specs.declared.frame.Frame.{Frame}
use Rattle.glass_base.specs.declared.limits.TheConstants.{MOST_ITEMS, MOST_SIDE}

abbrev pub frame_of : Problem → Frame
frame_of b = record { items = length b.items; stacks = length b.stacks; width = Widest b; height = b.params.height }

-- what every frame of an instance keeps
pub record IsFrame (f : Frame) : Type 0 where
  pub items : f.items ≤ MOST_ITEMS
  pub stacks : f.stacks ≤ MOST_ITEMS
  pub width : f.width ≤ MOST_SIDE
  pub height : f.height ≤ MOST_SIDE
