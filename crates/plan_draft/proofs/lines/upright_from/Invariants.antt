use Rattle.std.proofs.Common.{◌-◌}
use Rattle.defect_map.specs.Queries.{CrossesNoneX}
use Rattle.plan_draft.specs.inner.Least.{HasNoneUpTo}
use Rattle.plan_draft.proofs.lines.upright_from.Given as goal
use Rattle.glass_base.specs.declared.limits.TheConstants.{MOST_REACH}

abbrev pub invariant-loop-next : goal.invariant-loop-next
invariant-loop-next l = HasNoneUpTo (λ m. CrossesNoneX l.site.ground.instance.now.defects l.site.plate m 0 l.site.ground.instance.now.params.height) l.initial.x l.x

abbrev pub decreases-loop-next : goal.decreases-loop-next
decreases-loop-next l = MOST_REACH - l.x
