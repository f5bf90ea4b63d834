-- A sum of the wastes on the first plates that is kept within 64 bits.
use Rattle.std.specs.Prelude.{◌≡◌, ℕ, ◌+◌, ◌*◌, ◌<◌, ◌≤◌, ◌^◌, List, filter, length, map, nat_lt}
use Rattle.cut_model.specs.declared.family.Family.{Family}
use Rattle.cut_model.specs.declared.family.Row.{Row}
use Rattle.cut_model.specs.Loss.{waste_of}

-- the waste of the rows on the plates before this one
abbrev pub waste_before : ℕ → List Row → ℕ
waste_before k rows = waste_of (filter (λ row. nat_lt row.plate k) rows)

abbrev pub wasted : ℕ → List Family → ℕ
wasted k seen = waste_before k (map (λ f. f.row) seen)

-- the waste is small against the number of pieces, and where the sum is in range it is what was added
pub record IsWasted (k start now : ℕ) (seen : List Family) : Type 0 where
  pub small : wasted k seen ≤ 400000000 * length seen
  pub exact : start + wasted k seen < 2 ^ 64 → now ≡ start + wasted k seen
