use Rattle.std.proofs.Common.{◌≡◌, ◌==◌, take, filter}
use Rattle.std.specs.List.{flat_map}
use Rattle.plan_picture.specs.Pictures.{part_on}
use Rattle.plan_picture.specs.Told.{told}
use Rattle.plan_picture.specs.inner.Adding.{with_defects}
use Rattle.plan_picture.proofs.adding.add_defects.Given as goal

abbrev pub invariant-loop-defect : goal.invariant-loop-defect
invariant-loop-defect l =
    told l.marks.items ≡ with_defects (told l.fn.marks.items) (flat_map (part_on l.width l.height) (filter (λ d. d.plate == l.plate) (take l.defect-index l.defect-items)))
