use Rattle.std.proofs.Common.{List, take, sym, ap, ◌∙◌, arith, length-take-le, length}
use Rattle.cut_model.specs.Tree.{plates_of}
use Rattle.cut_model.specs.declared.plan.Plate.{Plate}
use Rattle.plan_freeze.specs.Frozen.{joined}
use Rattle.plan_freeze.proofs.Copied.{glued, plates_counted}
use Rattle.plan_freeze.proofs.gluing.glue.Goals as goal

pub slice_bounds-first-end : goal.slice_bounds-first-end
slice_bounds-first-end c = sym (length-take-le c.args.k c.as_slice.result.now (omega (arith, c.requires, plates_counted c.args.plan.now.plates.items, ap (λ (l : List Plate). length l) c.as_slice.ensures)))

pub returns : goal.returns
returns c =
    glued c.args.k c.args.plan.now.plates.items c.args.tail.now.plates.items c.new-plates.result.items c.add_plates.new.plates.items c.add_plates-2.new.plates.items c.new-plates.ensures
    (c.in_ok-add_plates.ensures ∙ ap (λ (l : List Plate). joined (plates_of c.new-plates.result.items) (plates_of (take c.args.k l))) c.as_slice.ensures)
    (c.in_ok-add_plates-2.ensures ∙ ap (λ (l : List Plate). joined (plates_of c.add_plates.new.plates.items) (plates_of l)) c.as_slice-2.ensures)
