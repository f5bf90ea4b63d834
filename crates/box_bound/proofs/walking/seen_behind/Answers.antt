use Rattle.std.proofs.Common.{subst, sym, Option}
use Rattle.plan_box.specs.declared.reason.Reason.{Reason}
use Rattle.plan_box.specs.Reasons.{SomeFixed}
use Rattle.box_bound.specs.declared.kept.Kept.{Kept}
use Rattle.box_bound.specs.Kept.{late}
use Rattle.box_bound.specs.Seen.{IsFirstIfAny}
use Rattle.plan_box.specs.Facts.{FactOf}
use Rattle.box_bound.specs.inner.Walks.{IsHead}
use Rattle.box_bound.proofs.Recursed.{seen_first}
use Rattle.box_bound.proofs.walking.seen_behind.Goals as goal

pub returns-in-Some-split_first : goal.returns-in-Some-split_first
returns-in-Some-split_first c = λ ks head levels seen.
    let b = c.args.asked.ground.instance.now in
    let step = c.args.step.now in
    let there = subst (λ (o : Option Kept). IsHead o ks) c.in-Some.is head in
    subst (λ (o : Option Reason). IsFirstIfAny (λ reason. SomeFixed (FactOf b c.args.asked.whole reason) step.level (late step) ks) o) (sym c.earlier.ensures)
    (seen_first (FactOf b c.args.asked.whole) step.level (late step) ks c.in-Some.next c.args.ranges.now c.in-Some-split_first.later.now c.in-Some-split_first.field-0-0.now c.seen_at.result c.args.behind.now.seen there levels
    c.in-Some-split_first.ensures.cases.0 c.seen_at.ensures seen)
