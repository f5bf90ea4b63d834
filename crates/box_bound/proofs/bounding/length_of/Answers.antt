use Rattle.std.proofs.Common.{[], ap, ◌∙◌, sym, length, take}
use Rattle.plan_box.specs.Decisions.{decided}
use Rattle.plan_box.specs.Leasts.{known, last_known, no_known}
use Rattle.plan_box.proofs.Counts.{known_count}
use Rattle.plan_box.specs.Follows.{follow}
use Rattle.plan_box.proofs.Following.{known_follows}
use Rattle.box_bound.proofs.Lengths.{settled_last}
use Rattle.box_bound.proofs.bounding.length_of.Goals as goal

pub returns-clause-value : goal.returns-clause-value
returns-clause-value c =
    let b = c.args.instance.now in
    let rs = c.args.bx.now.ranges in
    let had = c.decided_ranges-ranges.ensures in
    c.length_by.ensures.value (known b rs) (known_count b rs ∙ sym had.count)
    (ap (last_known no_known) (known_follows b rs) ∙ settled_last no_known (follow b [] no_known (take (length (decided rs)) rs)) ∙ ap (λ qs. last_known no_known (follow b [] no_known qs)) (sym had.ranges) ∙ sym c.last_step-last.ensures.value)
