use Rattle.plan_box.specs.declared.reason.Reason.{Reason}
use Rattle.plan_box.specs.Reasons.{R7}
use Rattle.box_bound.proofs.Firsts.{first_seventh, none_refuted}
use Rattle.plan_box.proofs.PointTests.{not_both}
use Rattle.box_bound.proofs.refuting.refuted_at.Goals as goal

pub is_broken_point_at-requires-clause-possible : goal.is_broken_point_at-requires-clause-possible
is_broken_point_at-requires-clause-possible c = c.in_default.ensures Reason.R1

pub returns-then-is_broken_point_at-clause-first : goal.returns-then-is_broken_point_at-clause-first
returns-then-is_broken_point_at-clause-first c =
    first_seventh c.args.instance.now c.args.bx.now.ranges c.in_default.ensures (c.is_broken_point_at.ensures.broken.0 c.if-is_broken_point_at.true)

pub returns-clause-first : goal.returns-clause-first
returns-clause-first c =
    let rs = c.args.bx.now.ranges in
    none_refuted c.args.instance.now rs c.in_default.ensures (λ broken. not_both c.is_broken_point_at.result (R7 c.args.instance.now rs) c.if-is_broken_point_at.false c.is_broken_point_at.ensures.broken broken)
