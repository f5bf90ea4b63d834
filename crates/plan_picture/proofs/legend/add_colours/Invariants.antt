use Rattle.std.proofs.Common.{◌≡◌}
use Rattle.plan_picture.specs.Told.{told}
use Rattle.plan_picture.proofs.legend.add_colours.Given as goal

abbrev pub invariant-loop-stack : goal.invariant-loop-stack
invariant-loop-stack l = told l.marks.items ≡ told l.fn.marks.items
