use Rattle.std.proofs.Common.{[], map, subst}
use Rattle.plan_trace.specs.declared.level.Level.{Level}
use Rattle.plan_box.specs.Leasts.{Known, no_known, settle}
use Rattle.plan_box.specs.Packed.{unpacked}
use Rattle.plan_box.specs.Reasons.{SomeFixed}
use Rattle.box_bound.specs.Kept.{early, late}
use Rattle.plan_box.specs.Follows.{follow}
use Rattle.box_bound.specs.Seen.{IsFirstIfAny}
use Rattle.plan_box.specs.Facts.{FactOf}
use Rattle.box_bound.specs.inner.Walks.{steps_from}
use Rattle.box_bound.proofs.Recursed.{are_levels}
use Rattle.box_bound.proofs.walking.seen_in.Goals as goal

pub returns-clause-seen : goal.returns-clause-seen
returns-clause-seen c =
    let b = c.args.asked.ground.instance.now in
    let ranges = c.args.ranges.now in
    let whole = c.args.asked.whole in
    let none = c.before_all-before.result in
    let k : Known = early none in
    let found = c.seen_behind.ensures (steps_from b ranges 0 k) c.walk-behind.ensures.first (are_levels b [] k ranges) c.walk-behind.ensures.seen in
    subst (λ (l : Level). IsFirstIfAny (λ r. SomeFixed (FactOf b whole r) l no_known (settle (follow b [] no_known (map unpacked ranges)))) c.seen_behind.result) c.before_all-before.ensures.level
    (subst (λ (j : Known). IsFirstIfAny (λ r. SomeFixed (FactOf b whole r) none.level j (settle (follow b [] no_known (map unpacked ranges)))) c.seen_behind.result) c.before_all-before.ensures.late
    (subst (λ (j : Known). IsFirstIfAny (λ r. SomeFixed (FactOf b whole r) none.level (late none) (settle (follow b [] j (map unpacked ranges)))) c.seen_behind.result) c.before_all-before.ensures.early found))
