-- The decided steps from one on, for a walk that keeps no list of them.
use Rattle.std.specs.Prelude.{◌≡◌, ℕ, List, [], ◌∷◌, length, map, take, drop, Option, Some, None}
use Rattle.glass_base.specs.Problem.{Problem}
use Rattle.plan_trace.specs.declared.level.Level.{Level}
use Rattle.plan_box.specs.declared.packed.Packed.{Packed}
use Rattle.plan_box.specs.Leasts.{Fixed, fixed, Known, settle}
use Rattle.plan_box.specs.Packed.{unpacked}
use Rattle.plan_box.specs.Reasons.{SomeFixed, fixed_levels}
use Rattle.box_bound.specs.declared.kept.Kept.{Kept}
use Rattle.box_bound.specs.Kept.{late_fixed}
use Rattle.plan_box.specs.Follows.{follow, draws_of}
use Rattle.box_bound.specs.inner.Drawn.{levels_of}

-- the decided steps of these ranges from one on, behind a step of which this is known
abbrev pub steps_from : Problem → List Packed → ℕ → Known → List Fixed
steps_from b ranges at k = settle (follow b (draws_of (take at ranges)) k (map unpacked (drop at ranges)))

-- the first of them, if there is one
abbrev pub IsHead : Option Kept → List Fixed → Type 0
IsHead None [] = Unit {0}
IsHead None (_ ∷ _) = ⊥
IsHead (Some _) [] = ⊥
IsHead (Some k) (x ∷ _) = late_fixed k ≡ x

-- R holds of one of them but the first
abbrev pub SomeBehind : (Level → Known → Level → Known → List Level → Type 0) → List Fixed → Type 0
SomeBehind R [] = ⊥
SomeBehind R (fixed l k ∷ later) = SomeFixed R l k later

-- there is a step for each of these ranges, and each but the first begins what its ranges say
pub record AreLevels (ks : List Fixed) (ranges : List Packed) : Type 0 where
  pub count : length ks ≡ length ranges
  pub later : drop 1 (fixed_levels ks) ≡ drop 1 (levels_of ranges)
