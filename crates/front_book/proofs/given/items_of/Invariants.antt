use Rattle.std.proofs.Common.{All}
use Rattle.glass_base.specs.Items.{IsItemInRange}
use Rattle.front_book.proofs.given.items_of.Given as goal

abbrev pub invariant-loop-number : goal.invariant-loop-number
invariant-loop-number l = All IsItemInRange l.items.items
