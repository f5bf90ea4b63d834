use Rattle.std.proofs.Common.{rules}
use Rattle.stock_csv.proofs.widening.ceiling_of_sum.Goals as goal

pub returns : goal.returns
returns c = search rules
