use Rattle.std.proofs.Common.{◌≡◌, rules}
use Rattle.std.specs.Fmt.{signed_decimal}
use Rattle.csv_table.proofs.Plain.{signed-plain}
use Rattle.csv_table.proofs.lines.signed.Goals as goal

pub returns : goal.returns
returns c =
    let e : c.as_bytes.result.now ≡ signed_decimal c.args.number = search rules in
    record { value = e; plain = rw e (signed-plain c.args.number (search rules)) }
