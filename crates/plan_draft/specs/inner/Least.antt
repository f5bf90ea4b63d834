-- The least number from a place on that has a property.
use Rattle.std.specs.Prelude.{ℕ, ◌<◌, ◌≤◌}
use Rattle.glass_base.specs.declared.limits.TheConstants.{MOST_REACH}

pub record IsLeast (P : ℕ → Type 0) (from n : ℕ) : Type 0 where
  pub behind : from ≤ n
  pub holds : P n
  pub none_before : (m : ℕ) → from ≤ m → m < n → ¬ P m

abbrev pub HasNone : (ℕ → Type 0) → ℕ → Type 0
HasNone P from = (m : ℕ) → from ≤ m → ¬ P m

-- no number from this one on up to the next has the property
pub record IsSkip (P : ℕ → Type 0) (from next : ℕ) : Type 0 where
  pub further : from < next
  pub near : next ≤ MOST_REACH
  pub none_before : (m : ℕ) → from ≤ m → m < next → ¬ P m

-- none of the numbers from this one on and before the other has the property
pub record HasNoneUpTo (P : ℕ → Type 0) (from to : ℕ) : Type 0 where
  pub order : from ≤ to
  pub none : (m : ℕ) → from ≤ m → m < to → ¬ P m
