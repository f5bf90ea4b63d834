-- What a box keeps of the ranges that it stores.
use Rattle.std.specs.Prelude.{ℕ, ◌+◌, ◌≤◌, List, length, map, All}
use Rattle.plan_box.specs.declared.frame.Frame.{Frame}
use Rattle.plan_box.specs.declared.packed.Packed.{Packed}
use Rattle.plan_box.specs.Decisions.{decided}
use Rattle.plan_box.specs.Frames.{IsFrame}
use Rattle.plan_box.specs.Packed.{all_ranges, unpacked}
use Rattle.plan_box.specs.Ranges.{AreInFrame, PlainBox}

pub record AreStored (f : Frame) (stored : List Packed) : Type 0 where
  pub frame : IsFrame f
  pub few : length stored ≤ f.items
  pub in_frame : All (λ x. AreInFrame f (unpacked x)) stored
  -- no more than the last one is undecided
  pub few_open : length stored ≤ length (decided (map unpacked stored)) + 1

-- the box of an identity, a frame and stored ranges
abbrev pub box_of : ℕ → Frame → List Packed → PlainBox
box_of id f stored = record { id = id; frame = f; ranges = all_ranges f (map unpacked stored) }
