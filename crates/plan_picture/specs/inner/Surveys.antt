-- What is counted of a plan.
use Rattle.std.specs.Prelude.{◌≡◌, ℕ, ◌+◌, ◌<◌, ◌^◌, List, length, if◌then◌else◌}
use Rattle.cut_model.specs.declared.family.Row.{Row}
use Rattle.cut_model.specs.declared.family.Sort.{Sort}
use Rattle.cut_model.specs.Order.{cut_order}
use Rattle.cut_model.specs.Tree.{is_item}

-- how many items a piece of this sort is
abbrev pub items_of : Sort → ℕ
items_of sort = if is_item sort then 1 else 0

-- the items among these rows were counted, if their number is one
pub record HasCounted (before now : ℕ) (rows : List Row) : Type 0 where
  pub counted : before + length (cut_order rows) < 2 ^ 64 → now ≡ before + length (cut_order rows)
