use Rattle.std.proofs.Common.{arith}
use Rattle.plan_draft.proofs.Complete.{draft_complete}
use Rattle.plan_draft.proofs.Drawing.{all_stacks, has_none, more_stack, still_fresh}
use Rattle.plan_draft.proofs.drafting.draft.Goals as goal

pub draft_stack-requires-clause-fresh : goal.draft_stack-requires-clause-fresh
draft_stack-requires-clause-fresh c =
    let d = c.loop-stack.drafting in
    still_fresh c.args.instance.now d.steps.items c.loop-stack.stack d.plates d.right c.loop-stack.invariant

pub returns-in-Some-clause-drafted : goal.returns-in-Some-clause-drafted
returns-in-Some-clause-drafted c =
    let d = c.loop-stack.drafting in
    has_none c.args.instance.now d.steps.items c.loop-stack.stack d.plates d.right c.in-Some.number c.loop-stack.invariant (rw c.stacks-stack-end.ensures.value at c.loop-stack-test.true) (rw c.in-Some.is at c.in_ok-number.ensures)

pub loop-stack-preserved : goal.loop-stack-preserved
loop-stack-preserved c =
    let d = c.loop-stack.drafting in
    let e = c.draft_stack.new.drafting in
    more_stack c.args.instance.now d.steps.items e.steps.items c.loop-stack.stack d.plates d.right e.plates e.right c.loop-stack.invariant (rw c.in-None.is at c.in_ok-number.ensures)

pub returns-clause-drafted : goal.returns-clause-drafted
returns-clause-drafted c =
    let d = c.loop-stack.drafting in
    all_stacks c.args.instance.now d.steps.items c.loop-stack.stack d.plates d.right c.loop-stack.invariant
    (omega (arith, c.loop-stack-test.false, c.loop-stack.auto.stack-end, c.stacks-stack-end.ensures.value))

pub returns-clause-complete : goal.returns-clause-complete
returns-clause-complete c =
    let d = c.loop-stack.drafting in
    draft_complete c.args.instance.now d.steps.items c.stacks-stack-end.ensures.rules
    (all_stacks c.args.instance.now d.steps.items c.loop-stack.stack d.plates d.right c.loop-stack.invariant
    (omega (arith, c.loop-stack-test.false, c.loop-stack.auto.stack-end, c.stacks-stack-end.ensures.value)))
