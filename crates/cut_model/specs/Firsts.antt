-- The first element of a list for which a fact does not hold.
use Rattle.std.specs.Prelude.{◌≡◌, ℕ, List, take, slice_get, Some, All}

-- the fact holds for the elements before this one, and not for it
pub record IsFirstWithout {A : Type 0} (Holds : A → Type 0) (xs : List A) (x : A) : Type 0 where
  pub place : ℕ
  pub there : slice_get xs place ≡ Some x
  pub before : All Holds (take place xs)
  pub fails : ¬ Holds x
