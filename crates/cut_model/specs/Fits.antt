-- Plans whose sizes and numbers are in range.
use Rattle.std.specs.Prelude.{◌≤◌}
use Rattle.cut_model.specs.declared.family.Sort.{Sort}
use Rattle.cut_model.specs.Tree.{Forest, nothing, piece, total_size, count}
use Rattle.glass_base.specs.declared.limits.TheConstants.{MOST_NUMBER, MOST_ROWS, MOST_SIDE}

-- an item number is at most 999,999,999
abbrev pub IsNumbered : Sort → Type 0
IsNumbered (Sort.Item number) = number ≤ MOST_NUMBER
IsNumbered Sort.Waste = Unit {0}
IsNumbered Sort.Branch = Unit {0}
IsNumbered Sort.Residual = Unit {0}

-- each size and the sum of each piece's children is at most 20,000, each item number at most 999,999,999
abbrev pub InRange : Forest → Type 0
InRange nothing = Unit {0}
InRange (piece size sort inner later) =
    (size ≤ MOST_SIDE) × IsNumbered sort × (total_size inner ≤ MOST_SIDE) × InRange inner × InRange later

-- so it is in the plan, which has at most 2,000,000,000 rows
pub record Fits (plan : Forest) : Type 0 where
  pub in_range : InRange plan
  pub few : count plan ≤ MOST_ROWS
