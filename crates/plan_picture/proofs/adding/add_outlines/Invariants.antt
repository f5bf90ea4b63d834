use Rattle.std.proofs.Common.{◌≡◌, take}
use Rattle.std.specs.Prelude.{option_to_list}
use Rattle.plan_picture.specs.Told.{told}
use Rattle.plan_picture.specs.inner.Adding.{with_outlines}
use Rattle.plan_picture.proofs.adding.add_outlines.Given as goal

abbrev pub invariant-loop-row : goal.invariant-loop-row
invariant-loop-row l = told l.marks.items ≡ with_outlines (told l.fn.marks.items) (option_to_list l.struck) (take l.row-index l.outlined)
