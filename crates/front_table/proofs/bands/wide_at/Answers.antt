use Rattle.front_table.proofs.WidthLists.{wide_is}
use Rattle.front_table.proofs.bands.wide_at.Goals as goal

pub returns : goal.returns
returns c = wide_is c.args.bands.now c.args.at _ c.requires
