use Rattle.cut_model.proofs.Shapes.{tree_shaped}
use Rattle.cut_model.proofs.laws.plans_are_shaped.Goals as goal

pub returns : goal.returns
returns c = tree_shaped
