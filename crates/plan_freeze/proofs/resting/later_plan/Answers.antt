use Rattle.std.proofs.Common.{List, ap, ◌∙◌, arith, drop, length}
use Rattle.cut_model.specs.Tree.{plates_of}
use Rattle.cut_model.specs.declared.plan.Plate.{Plate}
use Rattle.plan_freeze.specs.Frozen.{joined}
use Rattle.plan_freeze.proofs.Copied.{dropped, plates_counted}
use Rattle.plan_freeze.proofs.resting.later_plan.Goals as goal

pub split_at-requires : goal.split_at-requires
split_at-requires c = omega (arith, c.requires, plates_counted c.args.plan.now.plates.items, ap (λ (l : List Plate). length l) c.as_slice.ensures)

pub returns : goal.returns
returns c =
    dropped c.args.k c.args.plan.now.plates.items c.new-plates.result.items c.add_plates.new.plates.items c.new-plates.ensures
    (c.in_ok-add_plates.ensures ∙ ap (λ (l : List Plate). joined (plates_of c.new-plates.result.items) (plates_of l)) (c.split_at.ensures.back ∙ ap (λ (l : List Plate). drop c.args.k l) c.as_slice.ensures))
