use Rattle.std.proofs.Common.{◌≤◌, ◌-◌}
use Rattle.plan_draft.specs.inner.Places.{IsBestBefore}
use Rattle.plan_draft.proofs.lefts.first_place.Given as goal
use Rattle.glass_base.specs.declared.limits.TheConstants.{MOST_REACH}

abbrev pub invariant-loop-left : goal.invariant-loop-left
invariant-loop-left l = IsBestBefore l.site.ground.instance.now l.site.plate l.from l.item l.left l.best × (l.from ≤ l.left) × (l.left ≤ MOST_REACH)

abbrev pub decreases-loop-left : goal.decreases-loop-left
decreases-loop-left l = 40001 - l.left
