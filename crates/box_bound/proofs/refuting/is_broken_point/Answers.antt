use Rattle.plan_box.proofs.PointTests.{point_test}
use Rattle.box_bound.proofs.refuting.is_broken_point.Goals as goal

pub returns : goal.returns
returns c =
    point_test c.args.ground.instance.now c.args.bx.now.ranges c.args.numbers.now c.breaks.result (c.is_point.ensures.0 c.if-not-is_point.false) c.requires.possible c.requires.numbers c.breaks.ensures
