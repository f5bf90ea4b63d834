use Rattle.std.proofs.Common.{rules}
use Rattle.cert_log.proofs.text.letter_of.Goals as goal

pub returns-in-Kind : goal.returns-in-Kind
returns-in-Kind c = search rules
