-- Room that the pieces of a plan use up, one after another.
use Rattle.std.specs.Prelude.{◌≡◌, ℕ, ◌+◌, ◌-◌, ◌≤◌}
use Rattle.cut_model.specs.declared.family.Sort.{Sort}
use Rattle.cut_model.specs.Tree.{Forest, total_size, count}
use Rattle.cut_model.specs.Fits.{IsNumbered, InRange}
use Rattle.glass_base.specs.declared.limits.TheConstants.{MOST_SIDE}

-- pieces in range, whose sizes sum to at most `length`, and that have at most `room` rows
pub record FitsIn (length room : ℕ) (forest : Forest) : Type 0 where
  pub in_range : InRange forest
  pub total : total_size forest ≤ length
  pub few : count forest ≤ room

-- they fit, and this much room for rows is left
pub record Leaves (length room : ℕ) (forest : Forest) (left : ℕ) : Type 0 where
  pub fits : FitsIn length room forest
  pub left_is : left + count forest ≡ room

-- one piece in range, with at most `room` rows
pub record FitsPiece (room : ℕ) (sort : Sort) (inner : Forest) : Type 0 where
  pub numbered : IsNumbered sort
  pub some : 1 ≤ room
  pub inside : FitsIn MOST_SIDE (room - 1) inner

pub record LeavesPiece (room : ℕ) (sort : Sort) (inner : Forest) (left : ℕ) : Type 0 where
  pub fits : FitsPiece room sort inner
  pub left_is : left + count inner + 1 ≡ room
