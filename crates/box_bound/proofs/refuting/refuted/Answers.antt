use Rattle.std.proofs.Common.{◌≤◌, length, ap, sym, arith}
use Rattle.std.proofs.lemmas.List.{length-take-le}
use Rattle.plan_box.specs.declared.frame.Frame.{Frame}
use Rattle.plan_box.specs.declared.reason.Reason.{Reason}
use Rattle.plan_box.specs.Reasons.{R7}
use Rattle.plan_box.proofs.Counts.{decided_few}
use Rattle.box_bound.proofs.Firsts.{first_seventh, none_refuted}
use Rattle.plan_box.proofs.PointTests.{not_both}
use Rattle.box_bound.proofs.refuting.refuted.Goals as goal

pub slice_bounds-numbers-end : goal.slice_bounds-numbers-end
slice_bounds-numbers-end c =
    omega (arith, c.decided.ensures, decided_few c.args.bx.now.ranges, c.frame-frame.ensures.rules.each_step, ap (λ (f : Frame). f.items) c.requires.instance, c.items-items.ensures.rules.few_items, c.refuted_early.ensures.room)

pub slice_bounds-is_broken_point-end : goal.slice_bounds-is_broken_point-end
slice_bounds-is_broken_point-end c =
    let few : c.decided.result ≤ length c.refuted_early.new.numbers =
    omega (arith, c.decided.ensures, decided_few c.args.bx.now.ranges, c.frame-frame.ensures.rules.each_step, ap (λ (f : Frame). f.items) c.requires.instance, c.items-items.ensures.rules.few_items, c.refuted_early.ensures.room) in
    sym (length-take-le c.decided.result c.refuted_early.new.numbers few)

pub is_broken_point-requires-clause-possible : goal.is_broken_point-requires-clause-possible
is_broken_point-requires-clause-possible c = c.in_default.ensures.first Reason.R1

pub returns-then-is_broken_point : goal.returns-then-is_broken_point
returns-then-is_broken_point c = first_seventh c.args.instance.now c.args.bx.now.ranges c.in_default.ensures.first (c.is_broken_point.ensures.0 c.if-is_broken_point.true)

pub returns : goal.returns
returns c =
    let rs = c.args.bx.now.ranges in
    none_refuted c.args.instance.now rs c.in_default.ensures.first (λ broken. not_both c.is_broken_point.result (R7 c.args.instance.now rs) c.if-is_broken_point.false c.is_broken_point.ensures broken)
