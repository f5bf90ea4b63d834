use Rattle.std.proofs.Common.{◌≡◌, take}
use Rattle.cut_model.specs.Tree.{plates_of}
use Rattle.plan_freeze.specs.Frozen.{joined}
use Rattle.plan_freeze.proofs.copying.add_plates.Given as goal

abbrev pub invariant-loop-plate : goal.invariant-loop-plate
invariant-loop-plate l = plates_of l.plates.items ≡ joined (plates_of l.initial.plates.items) (plates_of (take l.plate-index l.more))
