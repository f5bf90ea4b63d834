use Rattle.std.proofs.Common.{◌∙◌}
use Rattle.front_table.proofs.Staircases.{area_is}
use Rattle.front_table.proofs.ends.area_in.Goals as goal

pub returns : goal.returns
returns c = c.from.ensures ∙ area_is c.args.ends.now c.args.at _ c.requires
