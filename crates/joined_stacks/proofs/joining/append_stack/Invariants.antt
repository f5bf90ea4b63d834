use Rattle.std.proofs.Common.{All}
use Rattle.glass_base.specs.Items.{IsItemInRange}
use Rattle.joined_stacks.proofs.joining.append_stack.Given as goal

abbrev pub invariant-loop-place : goal.invariant-loop-place
invariant-loop-place l = All IsItemInRange l.items.items
