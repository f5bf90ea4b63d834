use Rattle.std.proofs.Common.{sym}
use Rattle.plan_draft.proofs.Skips.{none_x, skip_x}
use Rattle.plan_draft.proofs.lines.blocked_upright.Goals as goal

pub returns-in-None : goal.returns-in-None
returns-in-None c =
    let b = c.args.site.ground.instance.now in
    none_x b.defects c.args.site.ground.map.now c.args.site.plate c.args.x 0 b.params.height c.args.site.ground.mapped (rw c.params.ensures.value at (sym c.in-None.ensures))

pub returns-in-Some : goal.returns-in-Some
returns-in-Some c =
    let b = c.args.site.ground.instance.now in
    rw c.defects.ensures.value (skip_x b.defects c.args.site.ground.map.now c.args.site.plate c.args.x b.params.height c.in-Some.at _ c.args.site.ground.mapped c.defects.ensures.rules.defects_in_range (rw c.params.ensures.value at (sym c.in-Some.ensures)))
