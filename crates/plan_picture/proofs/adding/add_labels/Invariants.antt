use Rattle.std.proofs.Common.{◌≡◌, take}
use Rattle.plan_picture.specs.Told.{told}
use Rattle.plan_picture.specs.inner.Adding.{with_texts, words_in}
use Rattle.plan_picture.proofs.adding.add_labels.Given as goal

abbrev pub invariant-loop-label : goal.invariant-loop-label
invariant-loop-label l = told l.marks.items ≡ with_texts (told l.fn.marks.items) (words_in (take l.label-index l.labels))
