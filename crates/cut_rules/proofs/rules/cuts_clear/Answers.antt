use Rattle.cut_rules.proofs.Positions.{border_breaks}
use Rattle.cut_rules.proofs.rules.cuts_clear.Goals as goal

pub returns : goal.returns
returns c =
    rw c.from.ensures (border_breaks c.args.ground.instance.now c.args.family.now c.args.ground.map.now c.border-line.result c.in_ok-place.place c.if-family.false c.args.ground.mapped c.border-line.ensures c.in_ok-place.ensures)
