use Rattle.std.proofs.Common.{sym, arith}
use Rattle.plan_box.specs.Ranges.{full_ranges}
use Rattle.plan_box.proofs.Freed.{decided_is, later_free, next_is, past_free}
use Rattle.plan_box.proofs.Stored.{box_from}
use Rattle.plan_box.proofs.boxes.PlanBox.free.Goals as goal

pub returns-then-step-self : goal.returns-then-step-self
returns-then-step-self c =
    let count = (box_from c.self.inside.id c.self.inside.frame c.self.inside.stored.items c.args.self.now c.self.invariant c.self.view_is).1 in
    sym (past_free c.args.self.now.ranges c.args.step c.args.var (omega (arith, count, c.if-step-self.true)))

pub returns-then-step-decided : goal.returns-then-step-decided
returns-then-step-decided c =
    sym (later_free c.args.self.now.ranges c.args.step c.args.var (omega (arith, c.decided-decided.ensures, c.if-step-decided.true)))

pub returns-then-step-decided-2 : goal.returns-then-step-decided-2
returns-then-step-decided-2 c =
    let count = (box_from c.self.inside.id c.self.inside.frame c.self.inside.stored.items c.args.self.now c.self.invariant c.self.view_is).1 in
    rw (c.is_wide.ensures, c.range-ends.ensures.low, c.range-ends.ensures.high, c.is_discrete.ensures)
    (sym (next_is c.args.self.now.ranges c.args.step c.args.var (full_ranges c.args.self.now.frame)
    (omega (arith, count, c.if-step-self.false)) (omega (arith, c.decided-decided.ensures, c.if-step-decided-2.true))))

pub returns : goal.returns
returns c =
    rw (c.is_wide-2.ensures, c.range-ends.ensures.low, c.range-ends.ensures.high, c.is_opened.ensures, c.range-kind.ensures.low)
    (sym (decided_is c.args.self.now.ranges c.args.step c.args.var (full_ranges c.args.self.now.frame)
    (omega (arith, c.decided-decided.ensures, c.if-step-decided.false, c.if-step-decided-2.false))))
