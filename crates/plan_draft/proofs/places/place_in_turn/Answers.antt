use Rattle.plan_draft.proofs.Standing.{places_alone, places_else}
use Rattle.plan_draft.proofs.places.place_in_turn.Goals as goal

pub returns-in-Some : goal.returns-in-Some
returns-in-Some c =
    let s = c.args.site in
    let i = c.args.item in
    places_alone s.ground.instance.now s.plate c.args.left c.args.turn i.w i.h c.in-Some.place c.in-Some.ensures

pub returns-in-None : goal.returns-in-None
returns-in-None c =
    let s = c.args.site in
    let i = c.args.item in
    places_else s.ground.instance.now s.plate c.args.left c.args.turn i.w i.h c.place_beside.result c.in-None.ensures c.place_beside.ensures
