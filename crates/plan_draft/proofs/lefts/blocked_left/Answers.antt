use Rattle.std.proofs.Common.{inl, inr, sym}
use Rattle.plan_draft.proofs.Beginnings.{left_found}
use Rattle.plan_draft.proofs.lefts.blocked_left.Goals as goal

pub returns-then-left-from : goal.returns-then-left-from
returns-then-left-from c =
    let s = c.args.site in left_found s.ground.instance.now s.plate c.args.from c.args.left c.blocked_line.result (inl (sym c.if-left-from.true)) c.blocked_line.ensures

pub returns : goal.returns
returns c =
    let s = c.args.site in
    left_found s.ground.instance.now s.plate c.args.from c.args.left c.blocked_line-2.result (inr (rw c.params.ensures.value at c.if-left-next.false)) c.blocked_line-2.ensures
