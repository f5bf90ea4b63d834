use Rattle.std.proofs.Common.{ap, ◌∙◌}
use Rattle.glass_base.specs.Run.{Listed}
use Rattle.glass_base.specs.declared.item.Defect.{Defect}
use Rattle.plan_freeze.proofs.ListsLeft.{defects_kept, defects_passed}
use Rattle.plan_freeze.proofs.resting.defects_from.Goals as goal
use Rattle.plan_freeze.proofs.resting.defects_from.Goals.{then-defect-k+in_ok-append, else-defect-k}

pub loop-defect-preserved : goal.loop-defect-preserved
loop-defect-preserved c =
    let items = λ (l : Listed Defect). l.items in
    elim c.if-defect-k.branch [
      | then-defect-k+in_ok-append w ↦
          ap items w.left-is ∙ defects_kept c.args.k c.args.defects.now c.loop-defect.left.items w.append.new.run.items c.loop-defect.defect-index _ c.loop-defect-test.true w.if-defect-k.true c.loop-defect.invariant w.in_ok-append.ensures.ok
      | else-defect-k w ↦
          ap items w.left-is ∙ defects_passed c.args.k c.args.defects.now c.loop-defect.left.items c.loop-defect.defect-index _ c.loop-defect-test.true w.if-defect-k.false c.loop-defect.invariant
    ]
