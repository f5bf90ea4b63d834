use Rattle.std.proofs.Common.{◌<◌, arith}
use Rattle.cut_model.specs.declared.family.Along.{Along}
use Rattle.cut_rules.specs.Breaches.{crosses}
use Rattle.cut_rules.proofs.Positions.{place_if_long}
use Rattle.cut_rules.proofs.rules.first_crossing_upright.Goals as goal

pub returns : goal.returns
returns c =
    let long : 0 < c.args.row.now.height = omega arith in
    place_if_long (crosses Along.X c.args.row.now) c.args.map.now c.first_crossing_x.result long c.first_crossing_x.ensures
