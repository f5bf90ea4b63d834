use Rattle.std.proofs.Common.{◌≤◌, ◌-◌}
use Rattle.plan_draft.specs.inner.Least.{HasNoneUpTo}
use Rattle.plan_draft.specs.inner.Places.{HasBand}
use Rattle.plan_draft.proofs.bands.band_from.Given as goal
use Rattle.glass_base.specs.declared.limits.TheConstants.{MOST_REACH}

abbrev pub invariant-loop-c : goal.invariant-loop-c
invariant-loop-c l = HasNoneUpTo (HasBand l.site.ground.instance.now l.site.plate l.left l.right l.item.w l.item.h) 0 l.c × (l.c ≤ MOST_REACH)

abbrev pub decreases-loop-c : goal.decreases-loop-c
decreases-loop-c l = 40001 - l.c
