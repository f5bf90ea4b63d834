use Rattle.std.proofs.Common.{◌∙◌, ap, arith}
use Rattle.cut_model.specs.Steps.{length_of, plates_begun}
use Rattle.loss_area.proofs.lengths.length.Goals as goal

pub reach-requires : goal.reach-requires
reach-requires c = omega (arith, ap plates_begun c.as_slice.ensures, c.requires.kinds.plates, c.args.instance.now.params.accepted.few_plates)

pub returns : goal.returns
returns c = c.reach.ensures.value ∙ ap (length_of c.args.instance.now) c.as_slice.ensures
