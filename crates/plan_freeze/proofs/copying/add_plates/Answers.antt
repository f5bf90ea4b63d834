use Rattle.std.proofs.Common.{sym}
use Rattle.cut_model.specs.Tree.{plates_of, strips}
use Rattle.cut_model.specs.declared.family.Sort.TheVariants.{Branch}
use Rattle.plan_freeze.proofs.Copied.{copied_more}
use Rattle.plan_freeze.proofs.Forests.{joined_nothing}
use Rattle.plan_freeze.proofs.copying.add_plates.Goals as goal

pub loop-plate-init : goal.loop-plate-init
loop-plate-init c = sym (joined_nothing (plates_of c.args.plates.now.items))

pub loop-plate-preserved : goal.loop-plate-preserved
loop-plate-preserved c =
    copied_more (λ p. 0) (λ p. Branch) (λ p. strips p.pieces.items) (plates_of c.args.plates.now.items) c.append.new.run.items c.loop-plate.plates.items c.args.more.now c.loop-plate.plate-index c.in_ok-copy_plate.field-0 c.plate-item.result c.plate-item.result
    c.in_ok-append.ensures.ok c.loop-plate-test.true c.plate-item.is c.in_ok-copy_plate.ensures c.loop-plate.invariant
