use Rattle.std.proofs.Common.{◌∙◌, arith}
use Rattle.csv_table.proofs.Plain.{decimal-plain}
use Rattle.csv_table.proofs.lines.unsigned.Goals as goal

pub returns : goal.returns
returns c = let e = c.as_bytes.ensures.value ∙ c.format.ensures.text in record { value = e; plain = rw e (decimal-plain c.args.number (omega arith)) }
