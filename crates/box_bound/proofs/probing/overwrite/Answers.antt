use Rattle.std.proofs.Common.{◌∙◌, arith}
use Rattle.plan_box.specs.Decisions.{no_step}
use Rattle.box_bound.proofs.Writing.{overwritten_more}
use Rattle.box_bound.proofs.probing.overwrite.Goals as goal

pub loop-i-preserved : goal.loop-i-preserved
loop-i-preserved c = c.set.ensures.new ∙ overwritten_more c.args.numbers.now c.args.steps.now.items c.loop-i.steps.items c.loop-i.i no_step no_step (omega arith) c.requires c.loop-i.invariant
