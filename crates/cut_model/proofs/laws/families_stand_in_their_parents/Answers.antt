use Rattle.cut_model.proofs.Corners.{stand_in_their_parents}
use Rattle.cut_model.proofs.laws.families_stand_in_their_parents.Goals as goal

pub returns : goal.returns
returns c = stand_in_their_parents
