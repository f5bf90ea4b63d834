use Rattle.cut_model.proofs.Parents.{named_by_children}
use Rattle.cut_model.proofs.laws.families_know_their_children.Goals as goal

pub returns : goal.returns
returns c = named_by_children
