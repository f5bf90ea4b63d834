use Rattle.std.proofs.Common.{◌+◌, sym}
use Rattle.plan_draft.proofs.Skips.{none_up, skip_up}
use Rattle.plan_draft.proofs.lines.blocked_item.Goals as goal

pub returns-in-None : goal.returns-in-None
returns-in-None c =
    let s = c.args.site in
    let i = c.args.item in
    none_up s.ground.instance.now.defects s.ground.map.now s.plate c.args.x c.args.y (c.args.x + i.w) (c.args.y + i.h) s.ground.mapped (sym c.in-None.ensures)

pub returns-in-Some : goal.returns-in-Some
returns-in-Some c =
    let s = c.args.site in
    let i = c.args.item in
    rw c.defects.ensures.value (skip_up s.ground.instance.now.defects s.ground.map.now s.plate c.args.x c.args.y (c.args.x + i.w) i.h c.in-Some.at _ s.ground.mapped c.defects.ensures.rules.defects_in_range (sym c.in-Some.ensures))
