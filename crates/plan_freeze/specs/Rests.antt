-- What is left to be planned where the first plates of a plan are cut already.
use Rattle.std.specs.Prelude.{◌≡◌, ◌+◌, ◌-◌, ◌*◌, ◌==◌, ℕ, List, filter, Bool, not, nat_le, nat_lt, if◌then◌else◌, Option, Some, None}
use Rattle.std.specs.List.{filter_map, list_any}
use Rattle.glass_base.specs.BadParams.{HasSizes}
use Rattle.glass_base.specs.Items.{area_of}
use Rattle.glass_base.specs.Plates.{Before, Width}
use Rattle.glass_base.specs.Problem.{Problem, IsProblem}
use Rattle.glass_base.specs.declared.item.Defect.{Defect}
use Rattle.glass_base.specs.declared.item.Item.{Item}
use Rattle.cut_model.specs.declared.family.Row.{Row}
use Rattle.cut_model.specs.Families.{rows_of}
use Rattle.cut_model.specs.Order.{cut_order}
use Rattle.cut_model.specs.Tree.{Forest}

-- the numbers of the items on the plates before this one, in the order in which they are cut
abbrev pub numbers_before : ℕ → List Row → List ℕ
numbers_before k rows = cut_order (filter (λ row. nat_lt row.plate k) rows)

-- so of the first plates of a plan
abbrev pub numbers_frozen : Problem → Forest → ℕ → List ℕ
numbers_frozen b plan k = numbers_before k (rows_of b plan)

-- whether an item has one of these numbers
abbrev pub is_among : List ℕ → Item → Bool
is_among numbers item = list_any (λ number. number == item.id) numbers

-- the items that have one of these numbers, and those that have none, in the order of the batch
abbrev pub items_among : List ℕ → List Item → List Item
items_among numbers items = filter (is_among numbers) items

abbrev pub items_besides : List ℕ → List Item → List Item
items_besides numbers items = filter (λ item. not (is_among numbers item)) items

-- a defect of the plates from this one on, its plate counted from there
abbrev pub defect_from : ℕ → Defect → Option Defect
defect_from k d = if nat_le k d.plate then Some (record d { plate = d.plate - k }) else None

abbrev pub defects_from : ℕ → List Defect → List Defect
defects_from k defects = filter_map (defect_from k) defects

-- the instance that is left: the items that are not on the first plates, and the other plates with their widths and defects, counted from 0
-- again; all else is the same
pub record IsRest (b : Problem) (plan : Forest) (k : ℕ) (rest : Problem) : Type 0 where
  pub items_are : rest.items ≡ items_besides (numbers_frozen b plan k) b.items
  pub defects_are : rest.defects ≡ defects_from k b.defects
  pub widths_are : (plate : ℕ) → Width rest plate ≡ Width b (plate + k)
  pub params_are : HasSizes rest.params (b.params.plates - k) b.params.width b.params.height b.params.min1 b.params.max1 b.params.min2 b.params.waste
  pub rules : IsProblem rest

-- what the first plates lose, in mm²: all of their glass but their items
abbrev pub frozen_loss : Problem → Forest → ℕ → ℕ
frozen_loss b plan k = b.params.height * Before b k - area_of (items_among (numbers_frozen b plan k) b.items)
