use Rattle.std.proofs.Common.{All}
use Rattle.glass_base.specs.Items.{IsItemInRange}
use Rattle.joined_stacks.proofs.joining.items_joined.Given as goal

abbrev pub invariant-loop-stack : goal.invariant-loop-stack
invariant-loop-stack l = All IsItemInRange l.items.items
