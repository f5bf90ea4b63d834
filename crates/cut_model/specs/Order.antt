-- The order in which a plan cuts its items.
use Rattle.std.specs.Prelude.{◌≡◌, ℕ, ℤ, pos, negsuc, ◌<◌, ◌==◌, List, find, Option, Some, None, AllPairs}
use Rattle.std.specs.List.{filter_map}
use Rattle.glass_base.specs.declared.item.Item.{Item}
use Rattle.cut_model.specs.declared.family.Row.{Row}

-- the number of the item, where the type of a row names one
abbrev pub item_named : ℤ → Option ℕ
item_named (pos number) = Some number
item_named (negsuc _) = None

-- the numbers of the items that are cut, in the order of the rows
abbrev pub cut_order : List Row → List ℕ
cut_order rows = filter_map (λ row. item_named row.kind) rows

-- the item of the batch that has this number
abbrev pub item_with : List Item → ℕ → Option Item
item_with items number = find (λ item. item.id == number) items

-- the items that are cut, in the order of the rows
abbrev pub items_cut : List Item → List Row → List Item
items_cut items rows = filter_map (item_with items) (cut_order rows)

-- of two items of one stack the one that is cut first has the lower sequence
abbrev pub KeepsStack : Item → Item → Type 0
KeepsStack earlier later = earlier.stack ≡ later.stack → earlier.sequence < later.sequence

abbrev pub KeepsStacks : List Item → Type 0
KeepsStacks items = AllPairs KeepsStack items
