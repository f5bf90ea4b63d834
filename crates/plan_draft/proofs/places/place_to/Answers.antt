use Rattle.plan_draft.proofs.Standing.{no_place, place_first}
use Rattle.plan_draft.proofs.places.place_to.Goals as goal

pub returns-in-None : goal.returns-in-None
returns-in-None c =
    let s = c.args.site in
    let i = c.args.item in
    no_place s.ground.instance.now s.plate c.args.left c.args.turn i.w i.h c.args.right c.in-None.ensures

pub returns-in-Some : goal.returns-in-Some
returns-in-Some c =
    let s = c.args.site in
    let i = c.args.item in
    let band = c.in-Some.band in
    place_first s.ground.instance.now s.plate c.args.left c.args.turn i.w i.h c.args.right band.c band.d c.requires.wide
    (record { narrow = c.requires.right.narrow; within = c.requires.right.within; behind = c.requires.right.behind; line = c.requires.right.line }) c.requires.behind c.in-Some.ensures
