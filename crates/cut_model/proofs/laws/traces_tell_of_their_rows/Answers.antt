use Rattle.cut_model.proofs.TracesTold.{traces_told}
use Rattle.cut_model.proofs.laws.traces_tell_of_their_rows.Goals as goal

pub returns : goal.returns
returns c = traces_told
