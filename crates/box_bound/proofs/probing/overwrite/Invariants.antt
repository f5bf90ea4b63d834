use Rattle.std.proofs.Common.{◌≡◌, ◌++◌, take, drop}
use Rattle.box_bound.proofs.probing.overwrite.Given as goal

abbrev pub invariant-loop-i : goal.invariant-loop-i
invariant-loop-i l = l.steps.items ≡ take l.i l.numbers ++ drop l.i l.initial.steps.items
