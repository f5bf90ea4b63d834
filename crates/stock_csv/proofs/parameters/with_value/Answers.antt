use Rattle.std.proofs.Common.{rules}
use Rattle.stock_csv.proofs.parameters.with_value.Goals as goal

pub returns-in-Max1 : goal.returns-in-Max1
returns-in-Max1 c = search rules
