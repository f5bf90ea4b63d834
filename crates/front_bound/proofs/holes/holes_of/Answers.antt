use Rattle.front_bound.proofs.PlacedRuns.{defect_at, holes_more, holes_none}
use Rattle.front_bound.proofs.holes.holes_of.Goals as goal

pub loop-defect-init : goal.loop-defect-init
loop-defect-init c = holes_none c.args.instance.now c.args.plate c.clear.new.self.items c.clear.ensures.items

pub loop-defect-preserved : goal.loop-defect-preserved
loop-defect-preserved c =
    holes_more c.args.instance.now c.args.plate c.loop-defect.holes.items c.add_hole.new.holes.items _ c.defects-defect-items.ensures.rules.defects_in_range (defect_at c.args.instance.now c.defects-defect-items.result.now c.loop-defect.defect-index _ c.defects-defect-items.ensures.value c.loop-defect-test.true)
    c.loop-defect.invariant c.in_ok-add_hole.ensures
