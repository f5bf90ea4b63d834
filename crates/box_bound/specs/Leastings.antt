-- The least values that are kept of a box, as contracts see them.
use Rattle.std.specs.Prelude.{◌≡◌, ℕ, ◌≤◌, List, [], length, map, take, All, Option, ◌==◌}
use Rattle.glass_base.specs.declared.item.Defect.{Defect}
use Rattle.glass_base.specs.Items.{area_of}
use Rattle.glass_base.specs.Problem.{Problem}
use Rattle.plan_box.specs.Decisions.{decided}
use Rattle.plan_box.specs.declared.reason.Reason.{Reason}
use Rattle.plan_box.specs.declared.var.Var.{Var}
use Rattle.plan_box.specs.Leasts.{Known, known, no_known, settle}
use Rattle.plan_box.specs.Packed.{unpacked}
use Rattle.plan_box.specs.Ranges.{PlainBox, Ranges}
use Rattle.box_bound.specs.declared.kept.Kept.{Kept}
use Rattle.box_bound.specs.Kept.{early_fixed, late, late_fixed}
use Rattle.plan_box.specs.Follows.{follow}
use Rattle.box_bound.specs.Seen.{AreSeen}
use Rattle.plan_box.specs.Within.{AreWithin}
use Rattle.glass_base.specs.declared.limits.TheConstants.{MOST_LENGTH}

-- the area of all items, the decided steps, for each the first reason that is a fact at it or before it, how many steps there is room
-- for, and the defects that the reasons are by
pub record Leastings : Type 0 where
  pub total : ℕ
  pub steps : List Kept
  pub seen : List (Option Reason)
  pub places : ℕ
  pub defects : List Defect

abbrev pub ranges_in : List Kept → List Ranges
ranges_in steps = map (λ k. unpacked k.ranges) steps

-- the kept steps are decided steps of this instance, with the values of the definition for their ranges
pub record AreKept (b : Problem) (steps : List Kept) : Type 0 where
  pub values : map early_fixed steps ≡ follow b [] no_known (ranges_in steps)

-- they are of this instance
pub record IsOf (b : Problem) (v : Leastings) : Type 0 where
  pub total : v.total ≡ area_of b.items
  pub places : v.places ≡ length b.items
  pub kept : AreKept b v.steps
  pub settled : map late_fixed v.steps ≡ settle (map early_fixed v.steps)
  pub few : length v.steps ≤ length b.items
  pub defects : v.defects ≡ b.defects
  pub seen : AreSeen b (length v.steps == length b.items) (map late_fixed v.steps) v.seen (length v.steps)

-- they are of this instance, and those of the box's decided steps
pub record IsFor (b : Problem) (x : PlainBox) (v : Leastings) : Type 0 where
  pub of_instance : IsOf b v
  pub ranges : ranges_in v.steps ≡ take (length (decided x.ranges)) x.ranges
  pub values : map late_fixed v.steps ≡ known b x.ranges
  pub within : All (λ k. AreWithin MOST_LENGTH (late k)) v.steps

-- the least value of a cut
abbrev pub least_of : Var → Known → ℕ
least_of Var.A k = k.least_a
least_of Var.B k = k.least_b
least_of Var.C k = k.least_c
least_of Var.D k = k.least_d
least_of Var.E k = k.least_e
least_of _ k = 0
