use Rattle.cut_model.proofs.Turns.{lie_by_their_cuts}
use Rattle.cut_model.proofs.laws.families_lie_by_their_cuts.Goals as goal

pub returns : goal.returns
returns c = lie_by_their_cuts
