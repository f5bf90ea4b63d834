-- Which rule on the order of items a plan breaks first, and where. A plan is seen here by the items that it cuts, in cutting
-- order, and by the rows of its plates.
use Rattle.std.specs.Prelude.{◌≡◌, ◌≢◌, ℕ, ◌<◌, ◌≤◌, ◌==◌, List, [], ◌∷◌, length, map, take, slice_get, find, reverse, Option, Some, All, AllPairs, Any, Contains, IsSome}
use Rattle.std.specs.List.{filter_map}
use Rattle.glass_base.specs.declared.item.Item.{Item}
use Rattle.glass_base.specs.Problem.{Problem}
use Rattle.cut_model.specs.declared.broken.Rule.{Rule}
use Rattle.cut_model.specs.declared.broken.Broken.{Broken}
use Rattle.cut_model.specs.declared.family.Row.{Row}
use Rattle.cut_model.specs.Firsts.{IsFirstWithout}
use Rattle.cut_model.specs.Order.{KeepsStacks}
use Rattle.stack_order.specs.declared.cuts.ItemCut.{ItemCut}
use Rattle.stack_order.specs.declared.order_rule.OrderRule.{OrderRule}

-- a rule on the order of items, among all rules of a lawful plan
abbrev pub rule_of : OrderRule → Rule
rule_of OrderRule.L9Unknown = Rule.L9Unknown
rule_of OrderRule.L9Twice = Rule.L9Twice
rule_of OrderRule.L9Missing = Rule.L9Missing
rule_of OrderRule.L9EmptyPlate = Rule.L9EmptyPlate
rule_of OrderRule.L9Plates = Rule.L9Plates
rule_of OrderRule.L10 = Rule.L10

-- the numbers of the batch's items
abbrev pub numbers : List Item → List ℕ
numbers items = map (λ item. item.id) items

-- the numbers of the items that are cut
abbrev pub numbers_cut : List ItemCut → List ℕ
numbers_cut cuts = map (λ c. c.number) cuts

-- the items of the batch that are cut
abbrev pub items_of : List ItemCut → List Item
items_of cuts = filter_map (λ c. c.item) cuts

-- an item is cut from this plate
abbrev pub HasItem : List ItemCut → Row → Type 0
HasItem cuts plate = Any (λ c. c.plate ≡ plate.plate) cuts

-- a plan keeps a rule on the order of items
abbrev pub KeepsOrderRule : Problem → List ItemCut → List Row → OrderRule → Type 0
KeepsOrderRule b cuts plates OrderRule.L9Unknown = All (λ c. IsSome c.item) cuts
KeepsOrderRule b cuts plates OrderRule.L9Twice = AllPairs (λ a c. a.number ≢ c.number) cuts
KeepsOrderRule b cuts plates OrderRule.L9Missing = All (Contains (numbers_cut cuts)) (numbers b.items)
KeepsOrderRule b cuts plates OrderRule.L9EmptyPlate = All (HasItem cuts) plates
KeepsOrderRule b cuts plates OrderRule.L9Plates = length plates ≤ b.params.plates
KeepsOrderRule b cuts plates OrderRule.L10 = KeepsStacks (items_of cuts)

-- these rules, in the order in which they are judged
abbrev pub order_rules : List OrderRule
order_rules = OrderRule.L9Unknown ∷ OrderRule.L9Twice ∷ OrderRule.L9Missing ∷ OrderRule.L9EmptyPlate ∷ OrderRule.L9Plates ∷ OrderRule.L10 ∷ []

-- what is said of a breach
abbrev pub breach : OrderRule → ℕ → ℕ → ℕ → ℕ → Broken
breach rule plate node left right = record { rule = rule_of rule; plate = plate; node = node; left = left; right = right }

-- the first item that the batch does not have: its number
pub record NamesUnknown (cuts : List ItemCut) (broken : Broken) : Type 0 where
  pub cut : ItemCut
  pub first : IsFirstWithout (λ c. IsSome c.item) cuts cut
  pub is : broken ≡ breach OrderRule.L9Unknown cut.plate cut.node cut.number 0

-- the first item that was cut before: its number, and the node where it was cut first
pub record NamesTwice (cuts : List ItemCut) (broken : Broken) : Type 0 where
  pub place : ℕ
  pub again : ItemCut
  pub there : slice_get cuts place ≡ Some again
  pub different : AllPairs (λ a c. a.number ≢ c.number) (take place cuts)
  pub first : ItemCut
  pub first_is : find (λ c. c.number == again.number) (take place cuts) ≡ Some first
  pub is : broken ≡ breach OrderRule.L9Twice again.plate again.node again.number first.node

-- the first item of the batch that is not cut: its number. It has no place, so the first plate stands for it
pub record NamesMissing (items : List Item) (cuts : List ItemCut) (broken : Broken) : Type 0 where
  pub number : ℕ
  pub first : IsFirstWithout (Contains (numbers_cut cuts)) (numbers items) number
  pub is : broken ≡ breach OrderRule.L9Missing 0 0 number 0

-- the first plate from which no item is cut: its number
pub record NamesEmptyPlate (cuts : List ItemCut) (plates : List Row) (broken : Broken) : Type 0 where
  pub plate : Row
  pub first : IsFirstWithout (HasItem cuts) plates plate
  pub is : broken ≡ breach OrderRule.L9EmptyPlate plate.plate plate.node plate.plate 0

-- the last of these items that belongs to a stack
abbrev pub last_of_stack : ℕ → List ItemCut → Option Item
last_of_stack stack cuts = find (λ item. item.stack == stack) (items_of (reverse cuts))

-- behind these items an item is cut whose sequence is lower than that of the last one of its stack: the numbers of both
pub record IsLate (before : List ItemCut) (cut : ItemCut) (broken : Broken) : Type 0 where
  pub item : Item
  pub item_is : cut.item ≡ Some item
  pub last : Item
  pub last_is : last_of_stack item.stack before ≡ Some last
  pub higher : item.sequence < last.sequence
  pub is : broken ≡ breach OrderRule.L10 cut.plate cut.node last.id cut.number

-- the first such item
pub record NamesLate (cuts : List ItemCut) (broken : Broken) : Type 0 where
  pub place : ℕ
  pub cut : ItemCut
  pub there : slice_get cuts place ≡ Some cut
  pub kept : KeepsStacks (items_of (take place cuts))
  pub late : IsLate (take place cuts) cut broken

-- what is said where this is the first rule that is broken
abbrev pub Names : Problem → List ItemCut → List Row → OrderRule → Broken → Type 0
Names b cuts plates OrderRule.L9Unknown broken = NamesUnknown cuts broken
Names b cuts plates OrderRule.L9Twice broken = NamesTwice cuts broken
Names b cuts plates OrderRule.L9Missing broken = NamesMissing b.items cuts broken
Names b cuts plates OrderRule.L9EmptyPlate broken = NamesEmptyPlate cuts plates broken
Names b cuts plates OrderRule.L9Plates broken = broken ≡ breach OrderRule.L9Plates 0 0 (length plates) b.params.plates
Names b cuts plates OrderRule.L10 broken = NamesLate cuts broken

-- the first of the rules that is broken, and what is said of it
pub record IsBreach (b : Problem) (cuts : List ItemCut) (plates : List Row) (broken : Broken) : Type 0 where
  pub rule : OrderRule
  pub first : IsFirstWithout (KeepsOrderRule b cuts plates) order_rules rule
  pub named : Names b cuts plates rule broken
