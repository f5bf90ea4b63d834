use Rattle.plan_draft.proofs.StepRanks.{first_beside, first_on_next, no_step}
use Rattle.plan_draft.proofs.stepping.next_step.Goals as goal

pub returns-in-Some : goal.returns-in-Some
returns-in-Some c =
    let a = c.args in
    rw c.step_at.ensures (first_beside a.ground.instance.now a.plates a.right a.stack a.item.now c.in-Some.place c.in-Some.ensures.0 c.in-Some.ensures.1)

pub returns-in-None-place_on_next : goal.returns-in-None-place_on_next
returns-in-None-place_on_next c =
    let a = c.args in no_step a.ground.instance.now a.plates a.right a.stack a.item.now c.in-None.ensures c.in-None-place_on_next.ensures

pub returns-in-Some-place_on_next : goal.returns-in-Some-place_on_next
returns-in-Some-place_on_next c =
    let a = c.args in
    let at = c.in-Some-place_on_next in
    rw c.step_at-in-Some-place_on_next.ensures (first_on_next a.ground.instance.now a.plates a.right a.stack a.item.now at.place c.in-None.ensures at.ensures.0 at.ensures.1)
