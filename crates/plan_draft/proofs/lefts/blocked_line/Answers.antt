use Rattle.plan_draft.proofs.Beginnings.{line_found}
use Rattle.plan_draft.proofs.lefts.blocked_line.Goals as goal

pub returns-else-left-eq0 : goal.returns-else-left-eq0
returns-else-left-eq0 c =
    let s = c.args.site in line_found s.ground.instance.now s.plate c.args.left c.blocked_upright.result c.if-left-eq0.false c.blocked_upright.ensures
