use Rattle.std.proofs.Common.{◌≡◌, take}
use Rattle.joined_stacks.proofs.joining.widths_of.Given as goal

abbrev pub invariant-loop-plate : goal.invariant-loop-plate
invariant-loop-plate l = l.widths.items ≡ take l.plate l.instance.widths
