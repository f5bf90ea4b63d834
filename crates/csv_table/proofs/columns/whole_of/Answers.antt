use Rattle.std.proofs.Common.{rules}
use Rattle.csv_table.proofs.columns.whole_of.Goals as goal

pub returns-else-number-most-clause-value : goal.returns-else-number-most-clause-value
returns-else-number-most-clause-value c = search rules

pub returns-then-number-most-clause-value : goal.returns-then-number-most-clause-value
returns-then-number-most-clause-value c = search rules
