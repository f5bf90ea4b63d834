use Rattle.std.proofs.Common.{ap, ◌+◌}
use Rattle.plan_draft.proofs.Tops.{over_least, over_none}
use Rattle.plan_draft.proofs.Truth.{not_true}
use Rattle.plan_draft.proofs.bands.top_over.Goals as goal

pub returns-then-is_beside : goal.returns-then-is_beside
returns-then-is_beside c =
    let s = c.args.site in
    let i = c.args.item in
    over_least s.ground.instance.now s.plate c.args.left c.args.right i.w i.h c.args.c _ c.in-Some.top
    (rw c.params-params.ensures.value at (ap (λ n. c.args.c + n) c.max.ensures)) c.in-Some.ensures
    (rw c.params-params.ensures.value at c.if-item-params.false)
    (c.is_clear_y.ensures.0 c.if-not-is_clear_y.false) (c.is_beside.ensures.0 c.if-is_beside.true)

pub returns-else-is_beside : goal.returns-else-is_beside
returns-else-is_beside c =
    let s = c.args.site in
    let i = c.args.item in
    over_none s.ground.instance.now s.plate c.args.left c.args.right i.w i.h c.args.c _ c.in-Some.top
    (rw c.params-params.ensures.value at (ap (λ n. c.args.c + n) c.max.ensures)) c.in-Some.ensures (λ t. not_true c.if-is_beside.false (c.is_beside.ensures.1 t))
