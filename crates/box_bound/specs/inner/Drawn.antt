-- Kept steps as decided steps of ranges: what they draw and begin.
use Rattle.std.specs.Prelude.{ℕ, List, [], ◌≡◌, ◌≤◌, drop, map, take}
use Rattle.glass_base.specs.Problem.{Problem}
use Rattle.plan_trace.specs.declared.level.Level.{Level}
use Rattle.plan_trace.specs.Marks.{Draw, level_of}
use Rattle.plan_box.specs.declared.packed.Packed.{Packed}
use Rattle.plan_box.specs.Leasts.{no_known}
use Rattle.plan_box.specs.Packed.{unpacked}
use Rattle.box_bound.specs.declared.kept.Kept.{Kept}
use Rattle.box_bound.specs.declared.placed.Drawn.{Drawn}
use Rattle.box_bound.specs.Kept.{early_fixed}
use Rattle.plan_box.specs.Follows.{follow}

abbrev pub draw_in : Drawn → Draw
draw_in d = record { stack = d.stack; turn = d.turn; kind = d.kind; lift = d.lift }

-- what decided steps of these ranges begin, none of which is the first one
abbrev pub levels_of : List Packed → List Level
levels_of ranges = map (λ r. level_of (unpacked r).kind.low) ranges

-- the first steps of a list are decided steps of these ranges
pub record IsFollowed (b : Problem) (steps : List Kept) (ranges : List Packed) (count : ℕ) : Type 0 where
  pub ranges_are : map (λ k. k.ranges) (take count steps) ≡ take count ranges
  pub values : map early_fixed (take count steps) ≡ follow b [] no_known (map unpacked (take count ranges))

-- later steps begin what their ranges say
pub record HaveLevels (steps : List Kept) (ranges : List Packed) : Type 0 where
  pub later : (i : ℕ) → 1 ≤ i → levels_of (drop i ranges) ≡ map (λ k. k.level) (drop i steps)
