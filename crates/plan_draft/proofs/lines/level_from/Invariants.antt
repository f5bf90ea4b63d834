use Rattle.std.proofs.Common.{◌-◌}
use Rattle.defect_map.specs.Queries.{CrossesNoneY}
use Rattle.plan_draft.specs.inner.Least.{HasNoneUpTo}
use Rattle.plan_draft.proofs.lines.level_from.Given as goal
use Rattle.glass_base.specs.declared.limits.TheConstants.{MOST_REACH}

abbrev pub invariant-loop-next : goal.invariant-loop-next
invariant-loop-next l = HasNoneUpTo (λ m. CrossesNoneY l.site.ground.instance.now.defects l.site.plate m l.x0 l.x1) l.initial.y l.y

abbrev pub decreases-loop-next : goal.decreases-loop-next
decreases-loop-next l = MOST_REACH - l.y
