use Rattle.std.proofs.Common.{sym}
use Rattle.plan_draft.proofs.Skips.{none_y, skip_y}
use Rattle.plan_draft.proofs.lines.blocked_level.Goals as goal

pub returns-in-None : goal.returns-in-None
returns-in-None c = none_y c.args.site.ground.instance.now.defects c.args.site.ground.map.now c.args.site.plate c.args.y c.args.x0 c.args.x1 c.args.site.ground.mapped (sym c.in-None.ensures)

pub returns-in-Some : goal.returns-in-Some
returns-in-Some c =
    let defects = c.args.site.ground.instance.now.defects in
    rw c.defects.ensures.value (skip_y defects c.args.site.ground.map.now c.args.site.plate c.args.y c.args.x0 c.args.x1 c.in-Some.at _ c.args.site.ground.mapped c.defects.ensures.rules.defects_in_range (sym c.in-Some.ensures))
