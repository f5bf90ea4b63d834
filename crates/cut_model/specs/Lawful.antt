-- Lawful plans.
use Rattle.std.specs.Prelude.{◌≡◌, ◌≢◌, ℕ, ◌==◌, ◌≤◌, List, length, map, filter, All, AllPairs, Any, Contains, IsSome}
use Rattle.glass_base.specs.declared.item.Item.{Item}
use Rattle.glass_base.specs.Problem.{Problem}
use Rattle.cut_model.specs.declared.family.Row.{Row}
use Rattle.cut_model.specs.Families.{families_of, rows_of}
use Rattle.cut_model.specs.Order.{cut_order, item_named, items_cut, KeepsStacks}
use Rattle.cut_model.specs.Rules.{KeepsCutRules}
use Rattle.cut_model.specs.Shape.{IsPlanShaped}
use Rattle.cut_model.specs.Tree.{Forest}

-- these are the numbers of the batch's items, each once and in any order
pub record CutsEachOnce (items : List Item) (order : List ℕ) : Type 0 where
  pub known : All (Contains (map (λ item. item.id) items)) order
  pub once : AllPairs (λ a b. a ≢ b) order
  pub all : All (Contains order) (map (λ item. item.id) items)

-- the rows of the plates
abbrev pub plate_rows : List Row → List Row
plate_rows rows = filter (λ row. row.cut == 0) rows

-- the row is that of an item on this plate
abbrev pub IsItemOn : ℕ → Row → Type 0
IsItemOn plate row = (row.plate ≡ plate) × IsSome (item_named row.kind)

-- an item is cut from the plate of each plate row
abbrev pub UsesEachPlate : List Row → Type 0
UsesEachPlate rows = All (λ p. Any (IsItemOn p.plate) rows) (plate_rows rows)

-- the rules L9 and L10, on the order in which items are cut
pub record KeepsOrderRules (b : Problem) (rows : List Row) : Type 0 where
  -- L9: each item of the batch is cut once and nothing else, each plate has an item, and no plate too many is used
  pub each_once : CutsEachOnce b.items (cut_order rows)
  pub each_plate : UsesEachPlate rows
  pub few_plates : length (plate_rows rows) ≤ b.params.plates
  -- L10: the items of one stack are cut in ascending sequence
  pub stacks : KeepsStacks (items_cut b.items rows)

-- the plan has the shape of a plan and obeys the rules L1 to L10
pub record IsLawful (b : Problem) (plan : Forest) : Type 0 where
  pub shape : IsPlanShaped plan
  -- L1 to L8, at each piece
  pub cuts : All (KeepsCutRules b) (families_of b plan)
  -- L9 and L10
  pub order : KeepsOrderRules b (rows_of b plan)
