use Rattle.cut_rules.proofs.Positions.{item_breaks}
use Rattle.cut_rules.proofs.rules.avoids_defects.Goals as goal

pub returns-in_ok-place-in-Item : goal.returns-in_ok-place-in-Item
returns-in_ok-place-in-Item c =
    rw c.from.ensures (item_breaks c.args.ground.instance.now c.args.family.now c.args.ground.map.now c.in-Item.number c.in_ok-place-in-Item.place c.in-Item.is c.args.ground.mapped c.in_ok-place-in-Item.ensures)
