use Rattle.std.proofs.Common.{◌∙◌, sym}
use Rattle.cut_model.proofs.Neighbours.{neighbour_count-neighbours}
use Rattle.cut_model.proofs.range.plates_used.Goals as goal

pub returns : goal.returns
returns c = c.len.ensures ∙ sym (neighbour_count-neighbours _ _ _ c.args.plan.now.plates.items)
