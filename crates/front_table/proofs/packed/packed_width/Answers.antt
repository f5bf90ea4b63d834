use Rattle.std.proofs.Common.{◌∙◌}
use Rattle.front_table.proofs.PackedBands.{width_is}
use Rattle.front_table.proofs.packed.packed_width.Goals as goal

pub returns : goal.returns
returns c = c.from.ensures ∙ width_is c.args.bands.now c.args.at _ c.requires
