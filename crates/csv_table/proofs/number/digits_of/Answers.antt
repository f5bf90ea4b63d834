use Rattle.std.proofs.Common.{rules}
use Rattle.csv_table.proofs.number.digits_of.Goals as goal

pub returns-then-are_digits-clause-value : goal.returns-then-are_digits-clause-value
returns-then-are_digits-clause-value c = search rules

pub returns-then-are_digits-clause-length : goal.returns-then-are_digits-clause-length
returns-then-are_digits-clause-length c = search rules

pub value_of-requires-clause-short : goal.value_of-requires-clause-short
value_of-requires-clause-short c = search rules
