use Rattle.std.proofs.Common.{◌≡◌}
use Rattle.plan_picture.specs.Told.{told}
use Rattle.plan_picture.proofs.legend.add_cuts.Given as goal

abbrev pub invariant-loop-level : goal.invariant-loop-level
invariant-loop-level l = told l.marks.items ≡ told l.fn.marks.items
