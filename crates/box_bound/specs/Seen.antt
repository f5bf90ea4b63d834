-- The reasons that are facts at decided steps, and the first of them.
use Rattle.std.specs.Prelude.{◌≡◌, ℕ, zero, suc, ◌<◌, ◌≤◌, ◌⊎◌, slice_index_or, take, Bool, List, [], ◌∷◌, Option, Some, None, cond, nat_lt}
use Rattle.glass_base.specs.Problem.{Problem}
use Rattle.plan_trace.specs.declared.level.Level.{Level}
use Rattle.plan_trace.specs.declared.level.Level.TheVariants.{NewPlate, NewStrip}
use Rattle.plan_box.specs.Leasts.{Fixed, fixed, Known, no_known}
use Rattle.plan_box.specs.Ranges.{Ranges}
use Rattle.plan_box.specs.Reasons.{Applies, fixed_levels, reason_number}
use Rattle.plan_box.specs.declared.reason.Reason.{Reason}
use Rattle.plan_box.specs.Facts.{FactOf}
use Rattle.box_bound.specs.declared.kept.Kept.{Kept}
use Rattle.box_bound.specs.Kept.{blank}

-- a reason for which a fact holds, and for none before it
abbrev pub IsFirstOf : (Reason → Type 0) → Reason → Type 0
IsFirstOf P reason = P reason × ((other : Reason) → reason_number other < reason_number reason → ¬ P other)

-- the first reason for which a fact holds, if it does for any
abbrev pub IsFirstIfAny : (Reason → Type 0) → Option Reason → Type 0
IsFirstIfAny P None = (reason : Reason) → ¬ P reason
IsFirstIfAny P (Some reason) = IsFirstOf P reason

-- the one that comes first of two reasons, if there is one
abbrev pub earlier : Option Reason → Option Reason → Option Reason
earlier None other = other
earlier (Some reason) None = Some reason
earlier (Some reason) (Some other) = cond (nat_lt (reason_number other) (reason_number reason)) (Some other) (Some reason)

-- R holds at one of the first `count` decided steps, of the kind of `SomeFixed`
abbrev pub AmongFixed : (Level → Known → Level → Known → List Level → Type 0) → Level → Known → List Fixed → ℕ → Type 0
AmongFixed R m j ks zero = ⊥
AmongFixed R m j [] (suc count) = ⊥
AmongFixed R m j (fixed l k ∷ later) (suc count) = R m j l k (fixed_levels later) ⊎ AmongFixed R l k later count

-- the reasons before R7, in a box
abbrev pub AppliesEarly : Problem → List Ranges → Reason → Type 0
AppliesEarly b rs Reason.R7 = ⊥
AppliesEarly b rs reason = Applies reason b rs

-- the step before this place, or what stands before the first one
abbrev pub before_fixed : Fixed → List Fixed → ℕ → Fixed
before_fixed x ks zero = x
before_fixed x [] (suc i) = x
before_fixed x (y ∷ ks) (suc i) = before_fixed y ks i

-- for each of the first `count` decided steps the first reason that is a fact at it or at one before it
abbrev pub AreSeen : Problem → Bool → List Fixed → List (Option Reason) → ℕ → Type 0
AreSeen b whole ks seen count =
    (i : ℕ) → i < count → IsFirstIfAny (λ r. AmongFixed (FactOf b whole r) NewPlate no_known ks (suc i)) (slice_index_or seen i None)

-- a strip begins at this level
abbrev pub StartsStrip : Level → Type 0
StartsStrip NewPlate = Unit {0}
StartsStrip NewStrip = Unit {0}
StartsStrip _ = ⊥

-- the first `start` of `many` steps are still those of `count` ones, and none of the others is of their strips
pub record AreShared (start many count : ℕ) (old new : List Kept) : Type 0 where
  pub in_old : start ≤ many
  pub in_new : start ≤ count
  pub same : take start new ≡ take start old
  pub strip : (start ≡ 0) ⊎ ((start < many) × (start < count) × ((slice_index_or new start blank).level ≡ (slice_index_or old start blank).level) × StartsStrip (slice_index_or old start blank).level)
