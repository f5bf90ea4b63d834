use Rattle.std.proofs.Common.{arith}
use Rattle.front_table.proofs.StackTails.{lowered_none, lowered_next, lowered_all}
use Rattle.front_table.proofs.tails.lower_all.Goals as goal

pub loop-class-init : goal.loop-class-init
loop-class-init c = lowered_none c.args.all.now c.min-most.result

pub loop-class-preserved : goal.loop-class-preserved
loop-class-preserved c =
    lowered_next c.loop-class.all c.lower_class.new.all c.args.all.now c.min-most.result c.loop-class.class c.loop-class.invariant c.lower_class.ensures.len c.lower_class.ensures.others c.lower_class.ensures.lower c.lower_class.ensures.most

pub returns : goal.returns
returns c = lowered_all c.loop-class.all c.args.all.now c.min-most.result c.args.to_go c.loop-class.class c.loop-class.invariant (omega (arith, c.min-most.ensures)) (omega (arith, c.loop-class-test.false, c.loop-class.auto.class-end))
