use Rattle.cut_model.proofs.Numbers.{rows_numbered}
use Rattle.cut_model.proofs.laws.rows_are_numbered.Goals as goal

pub returns : goal.returns
returns c = rows_numbered
