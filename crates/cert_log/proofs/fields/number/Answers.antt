use Rattle.cert_log.proofs.fields.number.Goals as goal
use Rattle.cert_log.proofs.Marks.{number_told}

pub returns : goal.returns
returns c = number_told c.args.text.now c.number_within.result c.number_within.ensures.value
