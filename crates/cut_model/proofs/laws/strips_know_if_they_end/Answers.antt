use Rattle.cut_model.proofs.Endings.{know_if_they_end}
use Rattle.cut_model.proofs.laws.strips_know_if_they_end.Goals as goal

pub returns : goal.returns
returns c = know_if_they_end
