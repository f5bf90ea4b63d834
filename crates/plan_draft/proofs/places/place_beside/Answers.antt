use Rattle.std.proofs.Common.{◌+◌, ap}
use Rattle.plan_draft.proofs.Standing.{none_beside, places_beside}
use Rattle.plan_draft.proofs.places.place_beside.Goals as goal

pub returns-in-None : goal.returns-in-None
returns-in-None c =
    let s = c.args.site in
    let i = c.args.item in
    none_beside s.ground.instance.now s.plate c.args.left c.args.turn i.w i.h _ (rw c.params-params.ensures.value at (ap (λ n. c.args.left + n) c.max.ensures)) (rw c.params-params.ensures.value at c.in-None.ensures)

pub returns-in-Some : goal.returns-in-Some
returns-in-Some c =
    let s = c.args.site in
    let i = c.args.item in
    places_beside s.ground.instance.now s.plate c.args.left c.args.turn i.w i.h _ c.in-Some.right c.place_to.result
    (rw c.params-params.ensures.value at (ap (λ n. c.args.left + n) c.max.ensures)) (rw c.params-params.ensures.value at c.in-Some.ensures) c.place_to.ensures
