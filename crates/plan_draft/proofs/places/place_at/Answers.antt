use Rattle.plan_draft.proofs.Standing.{square_places, turned_places}
use Rattle.plan_draft.proofs.places.place_at.Goals as goal

pub returns-then-item : goal.returns-then-item
returns-then-item c =
    let s = c.args.site in
    square_places s.ground.instance.now s.plate c.args.left c.args.item.now c.place_in_turn-first.result c.if-item.true c.place_in_turn-first.ensures

pub returns : goal.returns
returns c =
    let s = c.args.site in
    turned_places s.ground.instance.now s.plate c.args.left c.args.item.now c.place_in_turn-first.result c.place_in_turn.result c.first_of.result c.if-item.false c.first_of.ensures
    c.place_in_turn-first.ensures c.place_in_turn.ensures
