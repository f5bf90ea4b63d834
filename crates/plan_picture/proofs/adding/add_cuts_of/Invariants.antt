use Rattle.std.proofs.Common.{◌≡◌}
use Rattle.plan_picture.specs.Told.{told}
use Rattle.plan_picture.proofs.adding.add_cuts_of.Given as goal

abbrev pub invariant-loop-cut : goal.invariant-loop-cut
invariant-loop-cut l = told l.marks.items ≡ told l.fn.marks.items
