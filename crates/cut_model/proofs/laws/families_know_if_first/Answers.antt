use Rattle.cut_model.proofs.Firstborn.{know_if_first}
use Rattle.cut_model.proofs.laws.families_know_if_first.Goals as goal

pub returns : goal.returns
returns c = know_if_first
