use Rattle.std.proofs.Common.{sym}
use Rattle.std.proofs.lemmas.List.Elements.{All-get_or}
use Rattle.glass_base.specs.Items.{HasSides}
use Rattle.plan_draft.proofs.Stacking.{more_step, place_known, read_item, stopped_here}
use Rattle.plan_draft.proofs.drafting.draft_stack.Goals as goal

pub bounds-items-position : goal.bounds-items-position
bounds-items-position c =
    let b = c.args.ground.instance.now in
    let known = place_known b c.args.stack c.loop-position.position-index c.items.ensures.rules c.requires.stack (rw c.stack-position-items.ensures.value at c.loop-position-test.true) in
    rw (c.stack-position-items.ensures.value, c.items.ensures.value) known

pub draft_item-requires-clause-sides : goal.draft_item-requires-clause-sides
draft_item-requires-clause-sides c =
    let b = c.args.ground.instance.now in
    let known = place_known b c.args.stack c.loop-position.position-index c.items.ensures.rules c.requires.stack (rw c.stack-position-items.ensures.value at c.loop-position-test.true) in
    rw (c.stack-position-items.ensures.value, c.items.ensures.value) (All-get_or HasSides b.items _ _ known c.items.ensures.rules.sides)

pub draft_item-requires-clause-due : goal.draft_item-requires-clause-due
draft_item-requires-clause-due c =
    let d = c.loop-position.drafting in
    read_item c.args.ground.instance.now c.args.drafting.now.steps.items d.steps.items c.args.stack c.loop-position.position-index d.plates d.right c.stack-position-items.result.now c.items.result.now _
    c.items.ensures.rules c.requires.stack c.loop-position.invariant c.requires.fresh c.stack-position-items.ensures.value c.items.ensures.value c.loop-position-test.true

pub returns-in-Some : goal.returns-in-Some
returns-in-Some c =
    let b = c.args.ground.instance.now in
    let d = c.loop-position.drafting in
    let stop = rw c.in-Some.is at c.in_ok-number.ensures in
    stopped_here b c.args.drafting.now.steps.items d.steps.items c.args.stack c.loop-position.position-index _ d.plates d.right c.in-Some.number _ c.loop-position.invariant
    (rw c.stack-position-items.ensures.value at c.loop-position-test.true) stop.0
    (read_item b c.args.drafting.now.steps.items d.steps.items c.args.stack c.loop-position.position-index d.plates d.right c.stack-position-items.result.now c.items.result.now _
    c.items.ensures.rules c.requires.stack c.loop-position.invariant c.requires.fresh c.stack-position-items.ensures.value c.items.ensures.value c.loop-position-test.true)
    (sym stop.1)

pub loop-position-preserved : goal.loop-position-preserved
loop-position-preserved c =
    let d = c.loop-position.drafting in
    let e = c.draft_item.new.drafting in
    more_step c.args.ground.instance.now c.args.drafting.now.steps.items d.steps.items e.steps.items c.args.stack c.loop-position.position-index d.plates d.right e.plates e.right c.loop-position.invariant
    (rw c.in-None.is at c.in_ok-number.ensures)
