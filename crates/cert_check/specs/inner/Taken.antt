-- How many items of the stacks are drawn.
use Rattle.std.specs.Prelude.{◌≡◌, List, ℕ, length, slice_index_or, All}
use Rattle.plan_trace.specs.Marks.{Draw, drawn}
use Rattle.plan_box.specs.declared.packed.Packed.{Packed}
use Rattle.plan_box.specs.Packed.{unpacked}
use Rattle.glass_base.specs.declared.limits.TheConstants.{MOST_ITEMS}

-- of each stack that these steps draw from, how many items some draws take; there are no more than 800 stacks
pub record HaveDrawn (ranges : List Packed) (draws : List Draw) (counts : List ℕ) : Type 0 where
  pub many : length counts ≡ MOST_ITEMS
  pub each : All (λ r. slice_index_or counts (unpacked r).stack.low 0 ≡ drawn draws (unpacked r).stack.low) ranges
