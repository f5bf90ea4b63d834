use Rattle.plan_draft.proofs.Bottoms.{bottoms_above, bottoms_zero}
use Rattle.plan_draft.proofs.bands.blocked_bottom.Goals as goal

pub returns-then-c-eq0 : goal.returns-then-c-eq0
returns-then-c-eq0 c =
    let s = c.args.site in
    let i = c.args.item in
    rw c.if-c-eq0.true (bottoms_zero s.ground.instance.now s.plate c.args.left c.args.right i.w i.h c.blocked_item.result c.blocked_item.ensures)

pub returns-in-None : goal.returns-in-None
returns-in-None c =
    let s = c.args.site in
    let i = c.args.item in
    bottoms_above s.ground.instance.now s.plate c.args.left c.args.right i.w i.h c.args.c c.blocked_item-in-None.result (rw c.params.ensures.value at c.if-c-waste.false) c.in-None.ensures c.blocked_item-in-None.ensures
