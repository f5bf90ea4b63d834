use Rattle.plan_draft.proofs.Tops.{tops_over}
use Rattle.plan_draft.proofs.Truth.{not_true}
use Rattle.plan_draft.proofs.bands.top_of.Goals as goal

pub returns-else-fills : goal.returns-else-fills
returns-else-fills c =
    let s = c.args.site in
    let i = c.args.item in
    tops_over s.ground.instance.now s.plate c.args.left c.args.right i.w i.h c.args.c c.top_over.result (λ t. not_true c.if-fills.false (c.fills.ensures.1 t)) c.top_over.ensures
