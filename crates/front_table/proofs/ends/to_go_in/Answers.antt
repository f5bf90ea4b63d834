use Rattle.std.proofs.Common.{◌∙◌}
use Rattle.front_table.proofs.Staircases.{to_go_is}
use Rattle.front_table.proofs.ends.to_go_in.Goals as goal

pub returns : goal.returns
returns c = c.from.ensures ∙ to_go_is c.args.ends.now c.args.at _ c.requires
