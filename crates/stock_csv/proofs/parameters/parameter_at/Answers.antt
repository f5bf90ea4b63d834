use Rattle.std.proofs.Common.{rules}
use Rattle.stock_csv.proofs.parameters.parameter_at.Goals as goal

pub returns-in-Some : goal.returns-in-Some
returns-in-Some c = search rules
