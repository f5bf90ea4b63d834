-- The items that a plan cuts.
use Rattle.std.specs.Prelude.{◌≡◌, List, Option, All}
use Rattle.std.specs.List.{filter_map}
use Rattle.std.specs.Option.{option_map}
use Rattle.glass_base.specs.declared.item.Item.{Item}
use Rattle.cut_model.specs.declared.family.Row.{Row}
use Rattle.cut_model.specs.Order.{item_named, item_with}
use Rattle.stack_order.specs.declared.cuts.ItemCut.{ItemCut}

-- the item that is cut where the row is that of one: its plate, node and number, and the item of the batch with this number
abbrev pub cut_of : List Item → Row → Option ItemCut
cut_of items row =
    option_map (λ number. record { plate = row.plate; node = row.node; number = number; item = item_with items number }) (item_named row.kind)

-- the items that are cut, in the order of the rows
abbrev pub cuts_of : List Item → List Row → List ItemCut
cuts_of items rows = filter_map (cut_of items) rows

-- each of these has the item of the batch that its number names
abbrev pub AreCuts : List Item → List ItemCut → Type 0
AreCuts items cuts = All (λ c. c.item ≡ item_with items c.number) cuts
